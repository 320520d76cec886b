use Rattle.std.proofs.Common.{◌≡◌, ◌++◌, drop}
use Rattle.use_flow.specs.inner.Followed.{seen, left_open}
use Rattle.use_flow.proofs.scene.Scene.judge_left.Given as goal

abbrev pub invariant-loop-slot : goal.invariant-loop-slot
invariant-loop-slot l =
    l.failed.items ++ left_open (seen l.self) l.place (drop l.slot-index l.slots) l.sets ≡ l.initial.failed.items ++ left_open (seen l.self)
    l.place l.slots l.sets
