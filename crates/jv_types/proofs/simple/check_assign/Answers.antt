use Rattle.std.proofs.lemmas.Result.{err_from_is_err_and}
use Rattle.jv_tree.specs.View.{expr_of}
use Rattle.jv_rules.specs.Taking.{Fitting}
use Rattle.jv_types.specs.inner.View.{type_seen}
use Rattle.jv_types.specs.inner.Scopes.{scope_seen}
use Rattle.jv_types.specs.inner.Stating.{value_told}
use Rattle.jv_types.proofs.StmtLoops.{answers_as}
use Rattle.jv_types.proofs.StmtSteps.{target_tells, assigned_told}
use Rattle.jv_types.proofs.simple.check_assign.Goals as goal

pub returns-in_err-assigned : goal.returns-in_err-assigned
returns-in_err-assigned c =
    let r = err_from_is_err_and c.from_residual.result c.from_residual.ensures.1 in
    rw (r.1, r.2) (target_tells (scope_seen c.args.scope.now c.args.locals.now) c.args.place (expr_of c.args.target.now)
    (expr_of c.args.value.now) c.in_err-assigned.field-0.0 c.in_err-assigned.ensures)

pub returns : goal.returns
returns c =
    let s = scope_seen c.args.scope.now c.args.locals.now in
    let e = expr_of c.args.value.now in
    answers_as c.check_value.result (value_told s e (Fitting (type_seen c.in_ok-assigned.assigned.ty))) _
    (assigned_told s c.args.place (expr_of c.args.target.now) e c.in_ok-assigned.assigned c.in_ok-assigned.ensures) c.check_value.ensures
