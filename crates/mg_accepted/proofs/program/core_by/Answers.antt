use Rattle.std.proofs.Common.{ap, ◌∙◌, Err, Result}
use Rattle.std.proofs.lemmas.Result.{err_from_is_err_and}
use Rattle.jv_core.specs.declared.resolved.Core.{Core}
use Rattle.jv_types.specs.Tables.{program_in}
use Rattle.mg_refusal.specs.declared.stop.Stop.{Stop}
use Rattle.mg_accepted.proofs.Resolved.{is_shaped, only_assigns, is_well_typed, resolved, methods_stop}
use Rattle.mg_accepted.proofs.program.core_by.Goals as goal

abbrev failed : Stop → Result Core Stop
failed f = Err f

pub returns-in_err-judge : goal.returns-in_err-judge
returns-in_err-judge c files sourced declared =
    let f = err_from_is_err_and c.from_residual.result c.from_residual.ensures.1 in
    methods_stop files c.in_err-judge.field-0.0 c.from_residual.result (f.1 ∙ ap failed f.2) sourced (program_in c.args.table.now)
    declared c.in_err-judge.ensures

pub resolve-requires-clause-well_typed : goal.resolve-requires-clause-well_typed
resolve-requires-clause-well_typed c = is_well_typed c.requires.2 c.spelled_is_shaped.ensures c.in_ok-judge.ensures

pub resolve-requires-clause-shaped : goal.resolve-requires-clause-shaped
resolve-requires-clause-shaped c = is_shaped c.requires.2 c.spelled_is_shaped.ensures

pub resolve-requires-clause-assigns : goal.resolve-requires-clause-assigns
resolve-requires-clause-assigns c = only_assigns c.requires.2 c.spelled_is_shaped.ensures

pub returns : goal.returns
returns c files sourced declared =
    resolved declared c.spelled_is_shaped.ensures c.in_ok-judge.ensures c.in_ok-core.core c.in_ok-core.ensures.stands
    c.in_ok-core.ensures.resolved
