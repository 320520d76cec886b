use Rattle.vm_model.specs.View.{method_of}
use Rattle.vm_flat.specs.Flat.{IsFlatMethod}
use Rattle.vm_flat.proofs.Rows.{one_more}
use Rattle.vm_flat.proofs.program.flat_class.Goals as goal

pub loop-method-preserved : goal.loop-method-preserved
loop-method-preserved c =
    one_more IsFlatMethod method_of _ _ c.as_slice-method-items.result.now c.loop-method.method-index _ c.method-item.result
    c.loop-method-test.true c.method-item.is c.in_ok-push.ensures.ok c.loop-method.invariant c.in_ok-flat_method.ensures
