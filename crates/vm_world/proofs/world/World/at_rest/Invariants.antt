use Rattle.vm_world.specs.Resting.{FrontStill}
use Rattle.vm_world.proofs.world.World.at_rest.Given as goal

abbrev pub invariant-loop-role : goal.invariant-loop-role
invariant-loop-role l = FrontStill l.self.program l.self.world l.role
