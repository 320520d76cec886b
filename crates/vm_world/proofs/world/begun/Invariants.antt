use Rattle.std.proofs.Common.{◌≡◌, take, length}
use Rattle.vm_world_law.specs.World.{StartAt}
use Rattle.vm_world.specs.View.{roles_of}
use Rattle.vm_world.proofs.world.begun.Given as goal

abbrev pub invariant-loop-main : goal.invariant-loop-main
invariant-loop-main l = (length l.roles.items ≡ l.main-index) × StartAt l.fn.linked (take l.main-index l.mains)
    (roles_of l.roles.items)
