use Rattle.std.proofs.Common.{get_or, arith, sym}
use Rattle.std.proofs.lemmas.Grind.{get_or_default_zero}
use Rattle.use_flow.specs.inner.Followed.{seen}
use Rattle.use_flow.proofs.Heading.{slot_filled}
use Rattle.use_flow.proofs.scene.Scene.fill_slots.Goals as goal

pub loop-slot-preserved : goal.loop-slot-preserved
loop-slot-preserved c =
    slot_filled (seen c.args.self.now) c.args.number c.args.slots.now c.loop-slot.slot-index
    (get_or c.args.slots.now c.loop-slot.slot-index 0) (omega arith)
    (sym (get_or_default_zero c.args.slots.now c.loop-slot.slot-index _ (omega arith))) c.loop-slot.sets c.put.new.self _ c.args.context _
    c.in_ok-set.set
    (sym c.in-Some.ensures) c.requires c.in_ok-set.ensures c.put.ensures c.loop-slot.invariant
