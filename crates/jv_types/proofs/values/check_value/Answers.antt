use Rattle.std.proofs.lemmas.Result.{err_from_is_err_and}
use Rattle.jv_tree.specs.View.{expr_of}
use Rattle.jv_types.specs.inner.Scopes.{scope_seen}
use Rattle.jv_types.specs.inner.Stating.{wanted_seen}
use Rattle.jv_types.proofs.StmtSteps.{value_tells, value_wrong, value_fine}
use Rattle.jv_types.proofs.values.check_value.Goals as goal

pub returns-in_err-checked : goal.returns-in_err-checked
returns-in_err-checked c =
    let r = err_from_is_err_and c.from_residual.result c.from_residual.ensures.1 in
    rw (r.1, r.2)
    (value_tells (scope_seen c.args.scope.now c.args.locals.now) (expr_of c.args.expr.now) (wanted_seen c.args.wanted)
    c.in_err-checked.field-0.0 c.in_err-checked.ensures)

pub returns-in-Some : goal.returns-in-Some
returns-in-Some c =
    value_wrong (scope_seen c.args.scope.now c.args.locals.now) (expr_of c.args.expr.now) (wanted_seen c.args.wanted)
    c.in_ok-checked.checked c.in_ok-checked.ensures c.in-Some.at c.in-Some.ensures

pub returns-in-None : goal.returns-in-None
returns-in-None c =
    value_fine (scope_seen c.args.scope.now c.args.locals.now) (expr_of c.args.expr.now) (wanted_seen c.args.wanted) c.in_ok-checked.checked
    c.in_ok-checked.ensures c.in-None.ensures
