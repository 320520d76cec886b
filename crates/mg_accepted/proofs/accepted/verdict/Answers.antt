use Rattle.std.proofs.Common.{Err, Result, refl, ap, ◌∙◌}
use Rattle.std.proofs.lemmas.Result.{err_from_is_err_and}
use Rattle.mg_refusal.specs.declared.stop.Stop.{Stop}
use Rattle.mg_sources.specs.Files.{sources}
use Rattle.mg_accepted.specs.declared.accepted.AcceptedProgram.{AcceptedProgram}
use Rattle.mg_accepted.proofs.Usages.{ill_typed_judged, usages_right, usages_refused}
use Rattle.mg_accepted.proofs.accepted.verdict.Goals as goal

abbrev failed : Stop → Result AcceptedProgram Stop
failed f = Err f

pub returns-in_err-core : goal.returns-in_err-core
returns-in_err-core c =
    let f = err_from_is_err_and c.from_residual.result c.from_residual.ensures.1 in
    ill_typed_judged (sources c.args.names.now c.args.contents.now) c.in_err-core.field-0.0 c.from_residual.result (f.1 ∙ ap failed f.2)
    c.in_err-core.ensures.answered

pub returns-in-Err : goal.returns-in-Err
returns-in-Err c =
    usages_refused (sources c.args.names.now c.args.contents.now) c.in_ok-core.core c.in-Err.stop (failed c.in-Err.stop) refl
    c.in_ok-core.ensures.answered c.in-Err.ensures

pub returns-in-Ok : goal.returns-in-Ok
returns-in-Ok c = usages_right (sources c.args.names.now c.args.contents.now) _ c.in_ok-core.ensures.answered c.in-Ok.ensures
