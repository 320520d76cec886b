use Rattle.std.proofs.Common.{◌∙◌}
use Rattle.std.proofs.lemmas.Result.{err_from_is_err_and}
use Rattle.jv_tree.specs.View.{expr_of}
use Rattle.jv_core.specs.View.{stmt_of}
use Rattle.jv_core.proofs.ViewLaws.{stmt-Assign}
use Rattle.jv_resolve.specs.inner.Seen.{tables_seen, standing_seen, resolved_seen}
use Rattle.jv_resolve.specs.inner.Counted.{counted_seen}
use Rattle.jv_resolve.proofs.Assigning.{target_fails, value_fails, assigned_made}
use Rattle.jv_resolve.proofs.simple.assigned.Goals as goal

pub returns-in_err-target : goal.returns-in_err-target
returns-in_err-target c =
    let p = err_from_is_err_and c.from_residual.result c.from_residual.ensures.1 in
    rw (p.1, p.2)
    (target_fails (tables_seen c.args.scope.now.table.now) (standing_seen c.args.scope.now) c.args.body.now.locals c.args.place
    (expr_of c.args.target.now) (expr_of c.args.value.now) (counted_seen c.args.body.now)
    c.in_err-target.field-0.0 c.in_err-target.ensures)

pub returns-in_err-value : goal.returns-in_err-value
returns-in_err-value c =
    let p = err_from_is_err_and c.from_residual-in_err-value.result c.from_residual-in_err-value.ensures.1 in
    rw (p.1, p.2)
    (value_fails (tables_seen c.args.scope.now.table.now) (standing_seen c.args.scope.now) c.args.body.now.locals c.args.place
    (expr_of c.args.target.now) (expr_of c.args.value.now) (counted_seen c.args.body.now)
    c.in_ok-target.target c.in_ok-target.ensures c.in_err-value.field-0.0 c.in_err-value.ensures)

pub returns : goal.returns
returns c =
    assigned_made (tables_seen c.args.scope.now.table.now) (standing_seen c.args.scope.now) c.args.body.now.locals c.args.place
    (expr_of c.args.target.now) (expr_of c.args.value.now) (counted_seen c.args.body.now)
    c.in_ok-target.target c.in_ok-target.ensures (resolved_seen c.in_ok-value.value) (stmt_of c.stmt_at.result) c.in_ok-value.ensures
    (c.stmt_at.ensures ∙ stmt-Assign c.in_ok-target.target c.in_ok-value.value.expr c.args.place)
