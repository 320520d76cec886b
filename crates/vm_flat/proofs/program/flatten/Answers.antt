use Rattle.vm_model.specs.View.{class_of}
use Rattle.vm_flat.specs.Flat.{IsFlatClass}
use Rattle.vm_flat.proofs.Rows.{one_more}
use Rattle.vm_flat.proofs.program.flatten.Goals as goal

pub loop-class-preserved : goal.loop-class-preserved
loop-class-preserved c =
    one_more IsFlatClass class_of _ _ c.classes-class-items.result.now c.loop-class.class-index _ c.class-item.result
    c.loop-class-test.true c.class-item.is c.in_ok-push.ensures.ok c.loop-class.invariant c.in_ok-flat_class.ensures
