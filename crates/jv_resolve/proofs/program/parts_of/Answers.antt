use Rattle.std.proofs.Common.{◌≡◌, None, ◌∙◌}
use Rattle.std.specs.Prelude.{◌≢◌}
use Rattle.std.proofs.lemmas.Result.{err_from_is_err_and}
use Rattle.jv_types.specs.Tables.{program_in}
use Rattle.jv_types.specs.declared.name_table.Table.{Table}
use Rattle.jv_resolve_law.specs.Members.{resolving}
use Rattle.jv_resolve.specs.inner.Seen.{tables_seen}
use Rattle.jv_resolve.specs.inner.Wholes.{core_in}
use Rattle.jv_resolve.proofs.Chains.{fails_as}
use Rattle.jv_resolve.proofs.Tabling.{tables_made}
use Rattle.jv_resolve.proofs.Wholes.{tables_there, whole_tabled}
use Rattle.jv_resolve.proofs.program.parts_of.Goals as goal

-- the core of a table is that of its program
core_of : (t : Table) → resolving (program_in t) ≢ None → resolving (program_in t) ≡ core_in (tables_seen t) (program_in t).typestates
core_of t there = whole_tabled (program_in t) (tables_seen t) (tables_made t (tables_there (program_in t) there))

pub returns-in_err-parts-clause-resolved : goal.returns-in_err-parts-clause-resolved
returns-in_err-parts-clause-resolved c =
    let p = err_from_is_err_and c.from_residual.result c.from_residual.ensures.1 in
    rw (p.1, p.2) (fails_as c.in_err-parts.field-0.0 _ _ (core_of c.args.table.now c.requires) c.in_err-parts.ensures)

pub returns-clause-resolved : goal.returns-clause-resolved
returns-clause-resolved c = core_of c.args.table.now c.requires ∙ c.in_ok-parts.ensures

pub returns-clause-bounded : goal.returns-clause-bounded
returns-clause-bounded c = c.in_ok-bound_parts.ensures (program_in c.args.table.now)
