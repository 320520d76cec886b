use Rattle.std.proofs.Common.{false}
use Rattle.std.proofs.lemmas.Result.{err_from_is_err_and}
use Rattle.mg_accepted.specs.Accepted.{FirstRefusal}
use Rattle.mg_accepted.specs.View.{IsProgramOf}
use Rattle.mg_sources.specs.Files.{sources}
use Rattle.mg_words.specs.Words.{Check}
use Rattle.mg_top.specs.Commands as commands
use Rattle.mg_top.proofs.CommandLemmas.{report_given, stopped_so}
use Rattle.mg_top.proofs.check.check_first.Goals as goal

pub returns-in_err-program : goal.returns-in_err-program
returns-in_err-program c =
    let e = err_from_is_err_and c.from_residual.result c.from_residual.ensures.1 in
    rw (e.1, e.2)
    (stopped_so (Check false c.args.names.now) c.args.contents.now (IsProgramOf (sources c.args.names.now c.args.contents.now))
    (FirstRefusal (sources c.args.names.now c.args.contents.now)) (λ r h. commands.check h) _ c.in_err-program.ensures.answered)

pub returns-in_err-show : goal.returns-in_err-show
returns-in_err-show c =
    let e = err_from_is_err_and c.from_residual-in_err-show.result c.from_residual-in_err-show.ensures.1 in
    rw (e.1, e.2) tt

pub returns : goal.returns
returns c =
    report_given false c.args.names.now c.args.contents.now c.in_ok-program.program.core c.in_ok-show.field-0
    c.in_ok-program.ensures.answered.files_are c.in_ok-show.ensures
