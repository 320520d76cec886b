use Rattle.std.proofs.Common.{sym, ap, ◌∙◌}
use Rattle.std.proofs.lemmas.Result.{err_from_is_err_and}
use Rattle.jv_resolve_law.specs.Statements.{slot_more, declared}
use Rattle.jv_resolve.specs.inner.Counted.{counted_seen, counting}
use Rattle.jv_scope.specs.Named.{under}
use Rattle.jv_resolve.specs.inner.Seen.{tables_seen}
use Rattle.jv_resolve.proofs.Chains.{fails_as}
use Rattle.jv_resolve.proofs.MethodSteps.{param_made, param_slot_fails, param_scope_fails}
use Rattle.jv_resolve.proofs.methods.resolve_param.Goals as goal

pub returns : goal.returns
returns c =
    param_made (tables_seen c.args.table.now) c.args.param.now c.args.body.now.locals (counted_seen c.args.body.now)
    (counting (under c.as_str.result.now c.in_ok-local.local) (counted_seen c.add_slot.new.self)) c.declare.new.locals
    (ap (λ n. slot_more (tables_seen c.args.table.now) c.args.param.now.ty n (counted_seen c.args.body.now)) (sym c.as_str.ensures) ∙
    c.in_ok-local.ensures.it)
    (ap (declared (under c.as_str.result.now c.in_ok-local.local)) (sym c.in_ok-local.ensures.locals) ∙
    ap (λ n. declared (under n c.in_ok-local.local) c.add_slot.new.self.locals) (c.as_str.ensures ∙ sym c.as_str-2.ensures) ∙
    c.in_ok-declare.ensures.ok)

pub returns-in_err-local : goal.returns-in_err-local
returns-in_err-local c =
    let p = err_from_is_err_and c.from_residual.result c.from_residual.ensures.1 in
    rw (p.1, p.2)
    (param_slot_fails (tables_seen c.args.table.now) c.args.param.now c.args.body.now.locals (counted_seen c.args.body.now)
    c.in_err-local.field-0.0
    (fails_as c.in_err-local.field-0.0 _ _
    (ap (λ n. slot_more (tables_seen c.args.table.now) c.args.param.now.ty n (counted_seen c.args.body.now)) (sym c.as_str.ensures))
    c.in_err-local.ensures.it))

pub returns-in_err-declare : goal.returns-in_err-declare
returns-in_err-declare c =
    let p = err_from_is_err_and c.from_residual-in_err-declare.result c.from_residual-in_err-declare.ensures.1 in
    rw (p.1, p.2)
    (param_scope_fails (tables_seen c.args.table.now) c.args.param.now c.args.body.now.locals (counted_seen c.args.body.now)
    c.in_err-declare.field-0.0 (counting (under c.as_str.result.now c.in_ok-local.local) (counted_seen c.add_slot.new.self))
    (ap (λ n. slot_more (tables_seen c.args.table.now) c.args.param.now.ty n (counted_seen c.args.body.now)) (sym c.as_str.ensures) ∙
    c.in_ok-local.ensures.it)
    (fails_as c.in_err-declare.field-0.0 _ _ (ap (declared (under c.as_str.result.now c.in_ok-local.local))
    (sym c.in_ok-local.ensures.locals) ∙ ap (λ n. declared (under n c.in_ok-local.local) c.add_slot.new.self.locals)
    (c.as_str.ensures ∙ sym c.as_str-2.ensures)) c.in_err-declare.ensures.err))
