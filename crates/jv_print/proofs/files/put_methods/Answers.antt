use Rattle.std.proofs.Common.{string_bytes, ◌∙◌}
use Rattle.jv_print.proofs.Joins.{method_more}
use Rattle.jv_print.proofs.files.put_methods.Goals as goal

pub loop-method-preserved : goal.loop-method-preserved
loop-method-preserved c =
    c.loop-method.invariant
    ∙ method_more (string_bytes c.loop-method.out) (string_bytes c.put_method.new.out) c.args.methods.now c.loop-method.method-index
    c.method-item.result c.loop-method-test.true c.method-item.is
    c.in_ok-put_method.ensures
