use Rattle.std.proofs.Common.{ap, sym, ◌∙◌, Err, Result}
use Rattle.std.proofs.lemmas.Result.{err_from_is_err_and}
use Rattle.jv_core.specs.declared.resolved.Core.{Core}
use Rattle.mg_sources.specs.View.{sourced_of}
use Rattle.mg_refusal.specs.declared.stop.Stop.{Stop}
use Rattle.mg_accepted.proofs.Resolved.{files_numbered, table_stops}
use Rattle.mg_accepted.proofs.program.core_in.Goals as goal

abbrev failed : Stop → Result Core Stop
failed f = Err f

pub declared-requires : goal.declared-requires
declared-requires c = files_numbered c.args.sources.now c.requires.1

pub returns-in_err-table : goal.returns-in_err-table
returns-in_err-table c files are =
    let f = err_from_is_err_and c.from_residual.result c.from_residual.ensures.1 in
    table_stops files c.in_err-table.field-0.0 c.from_residual.result (f.1 ∙ ap failed f.2) (sourced_of c.args.sources.now) are
    c.in_err-table.ensures.answered

pub core_by-core-requires : goal.core_by-core-requires
core_by-core-requires c = (
  c.requires.0,
  sourced_of c.args.sources.now,
  record { are = c.requires.1; is = sym c.in_ok-table.ensures.program; declarations = c.in_ok-table.ensures.answered },
)

pub returns : goal.returns
returns c files are =
    c.core_by-core.ensures files (sourced_of c.args.sources.now)
    (record { are = are; is = sym c.in_ok-table.ensures.program; declarations = c.in_ok-table.ensures.answered })
