use Rattle.std.proofs.Common.{◌≡◌, drop}
use Rattle.use_flow.specs.inner.Followed.{seen, slots_at}
use Rattle.use_flow.proofs.scene.Scene.fill_slots.Given as goal

abbrev pub invariant-loop-slot : goal.invariant-loop-slot
invariant-loop-slot l = slots_at (seen l.self) l.number (drop l.slot-index l.slots) l.sets ≡ slots_at (seen l.self) l.number l.slots
    l.initial.sets
