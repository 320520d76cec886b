use Rattle.std.proofs.Common.{◌≡◌, drop}
use Rattle.use_flow.specs.inner.Followed.{seen, without}
use Rattle.use_flow.proofs.scene.Scene.leave.Given as goal

abbrev pub invariant-loop-slot : goal.invariant-loop-slot
invariant-loop-slot l = without (seen l.self) (drop l.slot-index l.slots) l.sets ≡ without (seen l.self) l.slots l.initial.sets
