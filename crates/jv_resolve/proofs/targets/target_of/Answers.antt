use Rattle.std.proofs.lemmas.Result.{err_from_is_err_and}
use Rattle.jv_tree.specs.View.{expr_of}
use Rattle.jv_resolve_law.specs.Expressions.{Resolved, resolved, variable_in}
use Rattle.jv_resolve.specs.inner.Seen.{tables_seen, standing_seen, resolved_seen}
use Rattle.jv_resolve.proofs.Chains.{after, fails_then, gives_as}
use Rattle.jv_resolve.proofs.targets.target_of.Goals as goal

pub returns-in_err-target : goal.returns-in_err-target
returns-in_err-target c =
    let p = err_from_is_err_and c.from_residual.result c.from_residual.ensures.1 in
    rw (p.1, p.2) (fails_then c.in_err-target.field-0.0 (resolved (tables_seen c.args.scope.now.table.now) (standing_seen c.args.scope.now)
    c.args.body.now.locals (expr_of c.args.target.now)) (λ (r : Resolved). variable_in r.expr) c.in_err-target.ensures)

pub returns : goal.returns
returns c =
    gives_as (λ x. x) c.variable_of-variable.result _ _
    (after (resolved (tables_seen c.args.scope.now.table.now) (standing_seen c.args.scope.now) c.args.body.now.locals
    (expr_of c.args.target.now)) (resolved_seen c.in_ok-target.target) (λ (r : Resolved). variable_in r.expr) c.in_ok-target.ensures)
    c.variable_of-variable.ensures
