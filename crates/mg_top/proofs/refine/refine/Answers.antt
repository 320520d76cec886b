use Rattle.std.proofs.lemmas.Result.{err_from_is_err_and}
use Rattle.mg_refined.specs.Refined.{AreJudged, FirstRefusal}
use Rattle.mg_refined.specs.declared.refined.Told.{Told}
use Rattle.mg_sources.specs.Files.{sources}
use Rattle.mg_words.specs.Words.{Refine}
use Rattle.mg_top.specs.Commands as commands
use Rattle.mg_top.proofs.CommandLemmas.{told_given, stopped_so}
use Rattle.mg_top.proofs.refine.refine.Goals as goal

pub returns-in_err-told : goal.returns-in_err-told
returns-in_err-told c =
    let files = sources c.args.names.now c.args.contents.now in
    let e = err_from_is_err_and c.from_residual.result c.from_residual.ensures.1 in
    rw (e.1, e.2)
    (stopped_so (Refine c.args.names.now) c.args.contents.now (λ (t : Told). AreJudged files t.text t.stands) (FirstRefusal files)
    (λ r h. commands.refine h) _ c.in_err-told.ensures.answered)

pub returns-in_err-printed : goal.returns-in_err-printed
returns-in_err-printed c =
    let e = err_from_is_err_and c.from_residual-in_err-printed.result c.from_residual-in_err-printed.ensures.1 in
    rw (e.1, e.2) tt

pub returns : goal.returns
returns c =
    told_given c.args.names.now c.args.contents.now c.in_ok-told.told.text c.as_str.result.now c.in_ok-told.told.stands c.status_of.result
    c.in_ok-printed.field-0 c.as_str.ensures c.status_of.ensures c.in_ok-told.ensures.answered c.in_ok-printed.ensures.actions
    c.in_ok-printed.ensures.status
