use Rattle.std.proofs.Common.{sym, ap, ◌∙◌}
use Rattle.std.proofs.lemmas.Result.{err_from_is_err_and}
use Rattle.jv_tree.specs.View.{expr_of}
use Rattle.jv_types.specs.inner.Scopes.{scope_seen}
use Rattle.jv_rules.specs.Taking.{Fitting}
use Rattle.jv_types.specs.inner.View.{type_seen}
use Rattle.jv_types.specs.inner.Judging.{misfit}
use Rattle.jv_types.proofs.StmtSteps.{local_tells, local_twice, local_wrong, local_fine}
use Rattle.jv_types.proofs.simple.check_local.Goals as goal

pub returns-in_err-checked : goal.returns-in_err-checked
returns-in_err-checked c =
    let r = err_from_is_err_and c.from_residual.result c.from_residual.ensures.1 in
    rw (r.1, r.2) (local_tells (scope_seen c.args.scope.now c.args.locals.now) c.args.place c.args.ty.now c.args.name.now
    (expr_of c.args.value.now) c.in_err-checked.field-0.0 c.in_err-checked.ensures)

pub returns-then-is_declared : goal.returns-then-is_declared
returns-then-is_declared c =
    local_twice (scope_seen c.args.scope.now c.args.locals.now) c.args.place c.args.ty.now c.args.name.now (expr_of c.args.value.now)
    c.in_ok-checked.checked c.in_ok-checked.ensures (sym c.is_declared.ensures ∙ c.if-is_declared.true)

pub returns-in-Some : goal.returns-in-Some
returns-in-Some c =
    let e = expr_of c.args.value.now in
    local_wrong (scope_seen c.args.scope.now c.args.locals.now) c.args.place c.args.ty.now c.args.name.now (expr_of c.args.value.now)
    c.in_ok-checked.checked c.in_ok-checked.ensures (sym c.is_declared.ensures ∙ c.if-is_declared.false)
    c.in-Some.at (c.in-Some.ensures ∙ ap (λ t. misfit (Fitting t) e (type_seen c.in_ok-checked.checked.ty)) c.meant.ensures)

pub returns-in-None : goal.returns-in-None
returns-in-None c =
    let e = expr_of c.args.value.now in
    local_fine (scope_seen c.args.scope.now c.args.locals.now) c.args.place c.args.ty.now c.args.name.now (expr_of c.args.value.now)
    c.in_ok-checked.checked c.in_ok-checked.ensures (sym c.is_declared.ensures ∙ c.if-is_declared.false)
    (c.in-None.ensures ∙ ap (λ t. misfit (Fitting t) e (type_seen c.in_ok-checked.checked.ty)) c.meant.ensures)
