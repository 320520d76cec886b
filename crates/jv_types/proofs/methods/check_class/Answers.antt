use Rattle.std.proofs.Common.{arith}
use Rattle.std.proofs.lemmas.Grind.{common_steps}
use Rattle.std.proofs.lemmas.Result.{err_from_is_err_and}
use Rattle.jv_types.specs.Tables.{program_in}
use Rattle.jv_types.specs.inner.Tabled.{class_in}
use Rattle.jv_types.proofs.MethodSteps.{method_wrong, method_more}
use Rattle.jv_types.proofs.methods.check_class.Goals as goal

pub returns-in_err-check_method : goal.returns-in_err-check_method
returns-in_err-check_method c =
    let r = err_from_is_err_and c.from_residual.result c.from_residual.ensures.1 in
    let p = program_in c.args.table.now in
    let k = class_in c.args.class.now in
    rw (r.1, r.2)
    (method_wrong p k c.as_slice-method-items.result.now c.loop-method.method-index k.methods c.loop-method.invariant c.method-item.result
    c.loop-method-test.true c.method-item.is
    c.in_err-check_method.field-0.0 c.in_err-check_method.ensures)

pub loop-method-preserved : goal.loop-method-preserved
loop-method-preserved c =
    let p = program_in c.args.table.now in
    let k = class_in c.args.class.now in
    method_more p k c.as_slice-method-items.result.now c.loop-method.method-index k.methods c.loop-method.invariant c.method-item.result
    c.loop-method-test.true c.method-item.is c.in_ok-check_method.ensures

pub returns : goal.returns
returns c = grind (arith, common_steps)
