use Rattle.std.proofs.Common.{map, [], sym, ap, ◌∙◌}
use Rattle.std.proofs.lemmas.Result.{err_from_is_err_and}
use Rattle.jv_tree.specs.View.{method_of, stmt_of as source_stmt, stmts_of}
use Rattle.jv_core.specs.View.{stmt_of}
use Rattle.jv_resolve_law.specs.Statements.{stmts}
use Rattle.jv_resolve_law.specs.Members.{Opened, params}
use Rattle.jv_resolve.specs.inner.Counted.{counted_seen, counting}
use Rattle.jv_resolve.specs.inner.Naming.{opened}
use Rattle.jv_resolve.specs.inner.Seen.{tables_seen, standing_seen}
use Rattle.jv_resolve.proofs.Chains.{after, fails_as, fails_then, gives_as}
use Rattle.jv_resolve.proofs.methods.resolve_body.Goals as goal

pub returns-in_err-resolve_params : goal.returns-in_err-resolve_params
returns-in_err-resolve_params c =
    let p = err_from_is_err_and c.from_residual.result c.from_residual.ensures.1 in
    rw (p.1, p.2)
    (fails_then c.in_err-resolve_params.field-0.0 (params (tables_seen c.args.scope.now.table.now) (method_of c.args.method.now).params
    c.args.body.now.locals (counted_seen c.args.body.now)) (λ (o : Opened). stmts (tables_seen c.args.scope.now.table.now)
    (standing_seen c.args.scope.now) (method_of c.args.method.now).body [] o.locals o.so_far)
    (fails_as c.in_err-resolve_params.field-0.0 _ _
    (ap (λ ps. params (tables_seen c.args.scope.now.table.now) ps c.args.body.now.locals (counted_seen c.args.body.now))
    (sym c.as_slice.ensures.items)) c.in_err-resolve_params.ensures))

pub returns : goal.returns
returns c =
    gives_as (λ l. counting (map stmt_of l.items) (counted_seen c.resolve_stmts.new.body)) c.resolve_stmts.result _ _
    (after (params (tables_seen c.args.scope.now.table.now) (method_of c.args.method.now).params c.args.body.now.locals
    (counted_seen c.args.body.now)) (opened c.resolve_params.new.body.locals (counted_seen c.resolve_params.new.body))
    (λ (o : Opened). stmts (tables_seen c.args.scope.now.table.now) (standing_seen c.args.scope.now) (method_of c.args.method.now).body
    [] o.locals o.so_far) (ap (λ ps. params (tables_seen c.args.scope.now.table.now) ps c.args.body.now.locals
    (counted_seen c.args.body.now)) (sym c.as_slice.ensures.items) ∙ c.in_ok-resolve_params.ensures)
    ∙ ap (λ ys. stmts (tables_seen c.args.scope.now.table.now) (standing_seen c.args.scope.now) (stmts_of (map source_stmt ys)) []
    c.resolve_params.new.body.locals (counted_seen c.resolve_params.new.body)) (sym c.as_slice-2.ensures.items))
    c.resolve_stmts.ensures.it
