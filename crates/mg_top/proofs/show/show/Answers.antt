use Rattle.std.proofs.lemmas.Result.{err_from_is_err_and}
use Rattle.mg_accepted.specs.Program.{HaveCore, FirstRefusal}
use Rattle.mg_sources.specs.Files.{sources}
use Rattle.mg_words.specs.Words.{Show}
use Rattle.mg_top.specs.Commands as commands
use Rattle.mg_top.proofs.CommandLemmas.{shown_given, stopped_so}
use Rattle.mg_top.proofs.show.show.Goals as goal

pub returns-in_err-core : goal.returns-in_err-core
returns-in_err-core c =
    let files = sources c.args.names.now c.args.contents.now in
    let e = err_from_is_err_and c.from_residual.result c.from_residual.ensures.1 in
    rw (e.1, e.2)
    (stopped_so (Show c.args.names.now) c.args.contents.now (HaveCore files) (FirstRefusal files) (λ r h. commands.show h) _
    c.in_err-core.ensures.answered)

pub returns-in_err-text : goal.returns-in_err-text
returns-in_err-text c =
    let e = err_from_is_err_and c.from_residual-in_err-text.result c.from_residual-in_err-text.ensures.1 in
    rw (e.1, e.2) tt

pub returns-in_err-print : goal.returns-in_err-print
returns-in_err-print c =
    let e = err_from_is_err_and c.from_residual-in_err-print.result c.from_residual-in_err-print.ensures.1 in
    rw (e.1, e.2) tt

pub returns : goal.returns
returns c =
    shown_given c.args.names.now c.args.contents.now c.in_ok-core.core c.in_ok-text.text c.as_str.result.now c.in_ok-print.field-0
    c.in_ok-core.ensures.answered c.in_ok-text.ensures c.as_str.ensures c.in_ok-print.ensures.actions c.in_ok-print.ensures.status
