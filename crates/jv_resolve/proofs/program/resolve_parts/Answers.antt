use Rattle.std.proofs.Common.{map, sym, ap, ◌∙◌}
use Rattle.std.proofs.lemmas.Result.{err_from_is_err_and}
use Rattle.jv_core.specs.View.{method_of}
use Rattle.jv_types.specs.Tables.{program_in}
use Rattle.jv_resolve_law.specs.Members.{methods}
use Rattle.jv_resolve.specs.inner.HeadedSeen.{heads_seen}
use Rattle.jv_resolve.specs.inner.Seen.{entry_seen, tables_seen}
use Rattle.jv_resolve.proofs.Chains.{fails_as}
use Rattle.jv_resolve.proofs.Wholes.{core_heads_fail, core_methods_fail, core_made}
use Rattle.jv_resolve.proofs.program.resolve_parts.Goals as goal

pub returns-in_err-heads : goal.returns-in_err-heads
returns-in_err-heads c =
    let p = err_from_is_err_and c.from_residual-in_err-heads.result c.from_residual-in_err-heads.ensures.1 in
    rw (p.1, p.2) (core_heads_fail (tables_seen c.args.table.now) (program_in c.args.table.now).typestates c.in_err-heads.field-0.0
    c.in_err-heads.ensures)

pub returns-in_err-resolved : goal.returns-in_err-resolved
returns-in_err-resolved c =
    let p = err_from_is_err_and c.from_residual-in_err-resolved.result c.from_residual-in_err-resolved.ensures.1 in
    rw (p.1, p.2)
    (core_methods_fail (tables_seen c.args.table.now) (program_in c.args.table.now).typestates (heads_seen c.in_ok-heads.heads)
    c.in_ok-heads.ensures c.in_err-resolved.field-0.0
    (fails_as c.in_err-resolved.field-0.0 _ _
    (ap (λ es. methods (tables_seen c.args.table.now) c.in_ok-heads.heads.names (map entry_seen es)) (sym c.classes.ensures.items))
    c.in_err-resolved.ensures))

pub returns : goal.returns
returns c =
    core_made (tables_seen c.args.table.now) (program_in c.args.table.now).typestates (heads_seen c.in_ok-heads.heads) c.in_ok-heads.ensures
    (map method_of c.in_ok-resolved.resolved.methods.items) c.in_ok-resolved.resolved.names c.in_ok-typestates.typestates.items
    (ap (λ es. methods (tables_seen c.args.table.now) c.in_ok-heads.heads.names (map entry_seen es)) (sym c.classes.ensures.items) ∙
    c.in_ok-resolved.ensures) (c.in_ok-typestates.ensures ∙ c.typestates.ensures)
