use Rattle.vm_world.proofs.Going.{Going}
use Rattle.vm_world.proofs.world.World.run_one.Given as goal

abbrev pub invariant-loop-left : goal.invariant-loop-left
invariant-loop-left l = Going l.fn.self.program l.fn.self.world l.order l.limit l.self l.left 0 0

abbrev pub decreases-loop-left : goal.decreases-loop-left
decreases-loop-left l = l.left
