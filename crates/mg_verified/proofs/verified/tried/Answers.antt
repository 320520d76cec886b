use Rattle.std.proofs.lemmas.Result.{err_from_is_err_and}
use Rattle.mg_sources.specs.Files.{sources}
use Rattle.mg_verified.proofs.Tried.{files_tried, no_files}
use Rattle.mg_verified.proofs.verified.tried.Goals as goal

pub returns-in_err-linked : goal.returns-in_err-linked
returns-in_err-linked c = λ names same.
    let e = err_from_is_err_and c.from_residual.result c.from_residual.ensures.1 in
    rw (e.1, e.2) (no_files (sources names c.args.contents.now) _ (c.in_err-linked.ensures names same))

pub returns : goal.returns
returns c = λ names same.
    files_tried (sources names c.args.contents.now) c.in_ok-linked.linked c.judged.result
    (c.in_ok-linked.ensures names same) c.judged.ensures
