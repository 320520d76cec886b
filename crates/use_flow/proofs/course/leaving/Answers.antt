use Rattle.std.proofs.Common.{get_or, sym}
use Rattle.std.proofs.lemmas.Grind.{get_or_default_zero}
use Rattle.use_flow.proofs.Coursing.{slot_stays, slot_left, all_left}
use Rattle.use_flow.proofs.course.leaving.Goals as goal

pub loop-slot-preserved-then-is_staying : goal.loop-slot-preserved-then-is_staying
loop-slot-preserved-then-is_staying c =
    slot_stays c.args.scope.now c.args.stays.now c.loop-slot.slot-index (get_or c.args.scope.now c.loop-slot.slot-index 0)
    c.loop-slot.left.items _ c.loop-slot-test.true
    (sym (get_or_default_zero c.args.scope.now c.loop-slot.slot-index _ c.loop-slot-test.true)) c.is_staying.result c.is_staying.ensures
    c.if-is_staying.true c.loop-slot.invariant

pub loop-slot-preserved : goal.loop-slot-preserved
loop-slot-preserved c =
    slot_left c.args.scope.now c.args.stays.now c.loop-slot.slot-index (get_or c.args.scope.now c.loop-slot.slot-index 0)
    c.loop-slot.left.items _ c.loop-slot-test.true
    (sym (get_or_default_zero c.args.scope.now c.loop-slot.slot-index _ c.loop-slot-test.true)) c.push.new.self.items c.is_staying.result
    c.is_staying.ensures c.if-is_staying.false
    c.in_ok-push.ensures.items c.loop-slot.invariant

pub returns : goal.returns
returns c = all_left c.args.scope.now c.args.stays.now c.loop-slot.slot-index c.loop-slot.left.items c.loop-slot-test.false
    c.loop-slot.invariant
