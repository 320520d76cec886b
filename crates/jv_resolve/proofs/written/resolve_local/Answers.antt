use Rattle.std.proofs.Common.{sym, ap, ◌∙◌}
use Rattle.std.proofs.lemmas.Result.{err_from_is_err_and}
use Rattle.jv_core.specs.View.{stmt_of}
use Rattle.jv_resolve_law.specs.Tables.{◌>>=◌}
use Rattle.jv_resolve_law.specs.Statements.{local}
use Rattle.jv_resolve.specs.inner.Counted.{counted_seen, itemed}
use Rattle.jv_resolve.specs.inner.Declaring.{declaration_seen}
use Rattle.jv_resolve.specs.inner.Scoping.{scope_item}
use Rattle.jv_resolve.specs.inner.Seen.{tables_seen, standing_seen}
use Rattle.jv_resolve.specs.inner.Writing.{written_seen}
use Rattle.jv_resolve.proofs.Chains.{fails_then, gives_as}
use Rattle.jv_resolve.proofs.written.resolve_local.Goals as goal

pub returns-in_err-declared : goal.returns-in_err-declared
returns-in_err-declared c =
    let p = err_from_is_err_and c.from_residual.result c.from_residual.ensures.1 in
    let w = written_seen c.args.written in
    rw (p.1, p.2)
    (fails_then c.in_err-declared.field-0.0 (local (tables_seen c.args.scope.now.table.now) (standing_seen c.args.scope.now) w.place w.ty
    w.name w.value c.args.body.now.locals (counted_seen c.args.body.now)) (λ k. scope_item k c.args.body.now.locals)
    c.in_err-declared.ensures.it)

pub returns : goal.returns
returns c =
    gives_as (λ s. itemed (stmt_of s) c.in_scope.new.body.locals (counted_seen c.in_scope.new.body)) c.in_scope.result _ _
    (ap (λ o. o >>= λ k. scope_item k c.args.body.now.locals) c.in_ok-declared.ensures.it
    ∙ ap (scope_item (declaration_seen c.args.written.name.now c.in_ok-declared.declared (counted_seen c.resolve_declaration.new.body)))
    (sym c.in_ok-declared.ensures.locals))
    c.in_scope.ensures
