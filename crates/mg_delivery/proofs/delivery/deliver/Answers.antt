use Rattle.std.proofs.Common.{refl, arith}
use Rattle.mg_delivery.specs.Delivery.{fails, lacks, nothing}
use Rattle.mg_delivery.proofs.DeliveryLaws.{done_more, done_whole, of_slice, stopped_at}
use Rattle.mg_delivery.proofs.delivery.deliver.Goals as goal

pub loop-action-init : goal.loop-action-init
loop-action-init g c = nothing

pub returns-in-Err-Failed : goal.returns-in-Err-Failed
returns-in-Err-Failed g c =
    let act = rw c.in-Err-Failed.field-0-is at c.in-Err-Failed.ensures in
    of_slice c.as_slice-actions.result.now c.args.delivery.now.actions.items c.as_slice-actions.ensures.items
    (stopped_at c.as_slice-actions.result.now c.loop-action.action-index c.action-item.result c.loop-action-test.true c.action-item.is
    c.loop-action.invariant (fails _ act (c.tell.ensures _ refl)))

pub returns-in-Err-Memory : goal.returns-in-Err-Memory
returns-in-Err-Memory g c =
    let act = rw c.in-Err-Memory.field-0-is at c.in-Err-Memory.ensures in
    of_slice c.as_slice-actions.result.now c.args.delivery.now.actions.items c.as_slice-actions.ensures.items
    (stopped_at c.as_slice-actions.result.now c.loop-action.action-index c.action-item.result c.loop-action-test.true c.action-item.is
    c.loop-action.invariant (lacks act))

pub loop-action-preserved : goal.loop-action-preserved
loop-action-preserved g c = done_more c.as_slice-actions.result.now c.loop-action.action-index c.action-item.result c.loop-action-test.true
    c.action-item.is c.loop-action.invariant c.in-Ok.ensures

pub returns : goal.returns
returns g c =
    of_slice c.as_slice-actions.result.now c.args.delivery.now.actions.items c.as_slice-actions.ensures.items
    (done_whole c.as_slice-actions.result.now c.loop-action.action-index (omega arith) c.loop-action.invariant)
