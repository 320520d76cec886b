use Rattle.std.proofs.Common.{sym, ap, ◌∙◌}
use Rattle.std.proofs.lemmas.Result.{err_from_is_err_and}
use Rattle.jv_tree.specs.View.{expr_of}
use Rattle.jv_resolve_law.specs.Expressions.{resolved}
use Rattle.jv_resolve.specs.inner.Seen.{tables_seen, standing_seen, resolved_seen}
use Rattle.jv_resolve.specs.inner.Counted.{counted_seen, counting}
use Rattle.jv_scope.specs.Named.{under}
use Rattle.jv_resolve.proofs.Chains.{fails_as}
use Rattle.jv_resolve.proofs.StmtSteps.{declared_made, declared_slot_fails, declared_value_fails}
use Rattle.jv_resolve.proofs.simple.resolve_declaration.Goals as goal

pub returns-in_err-local-clause-it : goal.returns-in_err-local-clause-it
returns-in_err-local-clause-it c =
    let p = err_from_is_err_and c.from_residual.result c.from_residual.ensures.1 in
    rw (p.1, p.2)
    (declared_slot_fails (tables_seen c.args.scope.now.table.now) (standing_seen c.args.scope.now) c.args.body.now.locals c.args.place
    c.args.ty.now c.args.name.now (expr_of c.args.value.now) (counted_seen c.args.body.now)
    c.in_err-local.field-0.0 c.in_err-local.ensures.it)

pub returns-in_err-value-clause-it : goal.returns-in_err-value-clause-it
returns-in_err-value-clause-it c =
    let p = err_from_is_err_and c.from_residual-in_err-value.result c.from_residual-in_err-value.ensures.1 in
    rw (p.1, p.2)
    (declared_value_fails (tables_seen c.args.scope.now.table.now) (standing_seen c.args.scope.now) c.args.body.now.locals c.args.place
    c.args.ty.now c.args.name.now (expr_of c.args.value.now) (counted_seen c.args.body.now)
    c.in_err-value.field-0.0
    (fails_as c.in_err-value.field-0.0 _ _ (ap (λ ls. resolved (tables_seen c.args.scope.now.table.now) (standing_seen c.args.scope.now) ls
    (expr_of c.args.value.now)) (sym c.in_ok-local.ensures.locals)) c.in_err-value.ensures))

pub returns-clause-it : goal.returns-clause-it
returns-clause-it c =
    declared_made (tables_seen c.args.scope.now.table.now) (standing_seen c.args.scope.now) c.args.body.now.locals c.args.place
    c.args.ty.now c.args.name.now (expr_of c.args.value.now) (counted_seen c.args.body.now) (resolved_seen c.in_ok-value.value)
    (counting (under c.args.name.now c.in_ok-local.local) (counted_seen c.add_slot.new.self))
    (ap (λ ls. resolved (tables_seen c.args.scope.now.table.now) (standing_seen c.args.scope.now) ls (expr_of c.args.value.now))
    (sym c.in_ok-local.ensures.locals) ∙ c.in_ok-value.ensures) c.in_ok-local.ensures.it
