use Rattle.std.proofs.lemmas.Result.{err_from_is_err_and}
use Rattle.mg_sources.specs.Files.{sources}
use Rattle.mg_verified.specs.Verified.{AreVerified, FirstRefusal}
use Rattle.mg_words.specs.Words.{Verify}
use Rattle.mg_top.specs.Commands as commands
use Rattle.mg_top.proofs.CommandLemmas.{verified_given, stopped_so}
use Rattle.mg_top.proofs.verify.verify.Goals as goal

pub returns-in_err-line : goal.returns-in_err-line
returns-in_err-line c = λ names same.
    let files = sources names c.args.contents.now in
    let e = err_from_is_err_and c.from_residual.result c.from_residual.ensures.1 in
    rw (e.1, e.2)
    (stopped_so (Verify names) c.args.contents.now (AreVerified files) (FirstRefusal files) (λ r h. commands.verify h) _
    (c.in_err-line.ensures.answered names same))

pub returns-in_err-printed : goal.returns-in_err-printed
returns-in_err-printed c = λ names same.
    let e = err_from_is_err_and c.from_residual-in_err-printed.result c.from_residual-in_err-printed.ensures.1 in
    rw (e.1, e.2) tt

pub returns : goal.returns
returns c = λ names same.
    verified_given names c.args.contents.now c.in_ok-line.line c.as_str.result.now c.in_ok-printed.field-0 c.as_str.ensures
    (c.in_ok-line.ensures.answered names same) c.in_ok-printed.ensures.actions c.in_ok-printed.ensures.status
