use Rattle.std.proofs.Common.{Some, ap, sym, subst, ◌∙◌}
use Rattle.jv_names.specs.Resolves.{Resolves}
use Rattle.jv_types.specs.Tables.{program_in}
use Rattle.jv_resolve.specs.inner.Parts.{parts_seen}
use Rattle.jv_resolve.proofs.program.resolve.Goals as goal

pub parts_of-requires : goal.parts_of-requires
parts_of-requires c = c.resolving_is_total.ensures (program_in c.args.table.now) c.requires.well_typed c.requires.assigns

pub new-requires : goal.new-requires
new-requires c =
    let program = program_in c.args.table.now in
    let core = parts_seen c.in-Ok.parts in
    ∣ c.core_is_kept.ensures program core c.requires.well_typed c.requires.shaped
    (c.resolving_is_right.ensures program core c.requires.well_typed c.in-Ok.ensures.resolved c.in-Ok.ensures.bounded) ∣₁

pub returns-in-Ok-clause-stands : goal.returns-in-Ok-clause-stands
returns-in-Ok-clause-stands c =
    let program = program_in c.args.table.now in
    let core = parts_seen c.in-Ok.parts in
    subst (Resolves program) (sym c.new.ensures) (c.resolving_is_right.ensures program core c.requires.well_typed c.in-Ok.ensures.resolved
    c.in-Ok.ensures.bounded)

pub returns-in-Ok-clause-resolved : goal.returns-in-Ok-clause-resolved
returns-in-Ok-clause-resolved c = c.in-Ok.ensures.resolved ∙ ap Some (sym c.new.ensures)

pub unreachable-requires : goal.unreachable-requires
unreachable-requires c = c.resolving_is_total.ensures (program_in c.args.table.now) c.requires.well_typed
    c.requires.assigns (rw c.in-Err-Fault.field-0-is at c.in-Err-Fault.ensures.resolved)
