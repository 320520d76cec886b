use Rattle.vm_world.proofs.Cycles.{AheadSoFar}
use Rattle.vm_world.proofs.run.least_ahead.Given as goal

abbrev pub invariant-loop-role : goal.invariant-loop-role
invariant-loop-role l = AheadSoFar l.order l.ahead l.role-index l.least
