use Rattle.std.proofs.Common.{ap, ◌∙◌, Err, Result}
use Rattle.std.proofs.lemmas.Result.{err_from_is_err_and}
use Rattle.jv_core.specs.declared.resolved.Core.{Core}
use Rattle.mg_sources.specs.Files.{sources}
use Rattle.mg_refusal.specs.declared.stop.Stop.{Stop}
use Rattle.mg_accepted.proofs.Resolved.{read_failed}
use Rattle.mg_accepted.proofs.program.core_of.Goals as goal

abbrev failed : Stop → Result Core Stop
failed f = Err f

pub returns-in_err-sources : goal.returns-in_err-sources
returns-in_err-sources c =
    let f = err_from_is_err_and c.from_residual.result c.from_residual.ensures.1 in
    read_failed (sources c.args.names.now c.args.contents.now) c.in_err-sources.field-0.0 c.from_residual.result
    (f.1 ∙ ap failed f.2) c.in_err-sources.ensures.answered

pub core_in-core-requires : goal.core_in-core-requires
core_in-core-requires c = (sources c.args.names.now c.args.contents.now, c.in_ok-sources.ensures.answered)

pub returns : goal.returns
returns c = c.core_in-core.ensures (sources c.args.names.now c.args.contents.now) c.in_ok-sources.ensures.answered
