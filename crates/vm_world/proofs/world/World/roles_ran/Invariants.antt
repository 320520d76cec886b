use Rattle.vm_world.proofs.Standing.{RanSoFar}
use Rattle.vm_world.proofs.world.World.roles_ran.Given as goal

abbrev pub invariant-loop-role : goal.invariant-loop-role
invariant-loop-role l = RanSoFar l.self.program l.self.world l.role l.ran.items
