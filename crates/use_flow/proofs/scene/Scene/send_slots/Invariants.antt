use Rattle.std.proofs.Common.{◌≡◌, ◌++◌, drop}
use Rattle.use_flow.specs.inner.Fields.{outs_in}
use Rattle.use_flow.specs.inner.Followed.{seen, slot_heads}
use Rattle.use_flow.proofs.scene.Scene.send_slots.Given as goal

abbrev pub invariant-loop-slot : goal.invariant-loop-slot
invariant-loop-slot l =
    outs_in l.outs.items ++ slot_heads (seen l.self) l.number (drop l.slot-index l.slots) l.sets
    ≡ outs_in l.initial.outs.items ++ slot_heads (seen l.self) l.number l.slots l.sets
