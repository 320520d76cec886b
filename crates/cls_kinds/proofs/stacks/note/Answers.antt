use Rattle.std.proofs.Common.{sym, arith}
use Rattle.cls_kinds.proofs.Stacking.{set_past}
use Rattle.cls_kinds.proofs.stacks.note.Goals as goal

pub returns-then-slot-slots : goal.returns-then-slot-slots
returns-then-slot-slots c = sym (set_past c.args.slots.now c.args.slot c.args.number (omega (arith, c.if-slot-slots.true)))
