use Rattle.std.proofs.Common.{refl}
use Rattle.std.proofs.lemmas.Result.{err_from_is_err_and}
use Rattle.jv_tree.specs.View.{expr_of}
use Rattle.jv_rules.specs.Types.{BooleanType}
use Rattle.jv_rules.specs.Taking.{Fitting}
use Rattle.jv_types.specs.inner.Scopes.{scope_seen}
use Rattle.jv_types.specs.inner.Stating.{value_told, label_told, loop_told}
use Rattle.jv_types.proofs.Checking.{tells_first}
use Rattle.jv_types.proofs.StmtLoops.{answers_last}
use Rattle.jv_types.proofs.heads.check_loop.Goals as goal

pub returns-in_err-check_value : goal.returns-in_err-check_value
returns-in_err-check_value c =
    let r = err_from_is_err_and c.from_residual.result c.from_residual.ensures.1 in
    let s = scope_seen c.args.scope.now c.args.locals.now in
    let e = expr_of c.args.condition.now in
    rw (r.1, r.2)
    (tells_first c.in_err-check_value.field-0.0 (value_told s e (Fitting BooleanType)) (label_told s c.args.place c.args.label.now)
    (loop_told s c.args.place c.args.label.now e)
    refl c.in_err-check_value.ensures)

pub returns : goal.returns
returns c =
    let s = scope_seen c.args.scope.now c.args.locals.now in
    let e = expr_of c.args.condition.now in
    answers_last c.check_label.result (value_told s e (Fitting BooleanType)) (label_told s c.args.place c.args.label.now)
    (loop_told s c.args.place c.args.label.now e)
    refl c.in_ok-check_value.ensures c.check_label.ensures
