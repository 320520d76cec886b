use Rattle.std.proofs.Common.{List, map, ap, subst}
use Rattle.std.proofs.lemmas.Result.{err_from_is_err_and}
use Rattle.cls_tree.specs.Tree.{Class as File}
use Rattle.cls_tree.specs.View.{class_of as file_of}
use Rattle.vm_model.specs.Links.{Links, IsUnlinked}
use Rattle.mg_refusal.specs.Order.{Finds, Answers}
use Rattle.mg_sources.specs.Files.{sources}
use Rattle.mg_exec.specs.Runs.{flaw_refusal}
use Rattle.mg_exec.proofs.Shown.{unread_program, program_linked}
use Rattle.mg_exec.proofs.execution.program.Goals as goal

pub returns-in_err-classes : goal.returns-in_err-classes
returns-in_err-classes c = λ names same.
    let e = err_from_is_err_and c.from_residual.result c.from_residual.ensures.1 in
    rw (e.1, e.2) (unread_program (sources names c.args.contents.now) _ (c.in_err-classes.ensures names same))

pub returns : goal.returns
returns c = λ names same.
    program_linked (sources names c.args.contents.now) (map file_of c.in_ok-classes.classes.items) c.link.result
    (c.in_ok-classes.ensures names same)
    (subst (λ (z : List File). Answers (Links z) (Finds (IsUnlinked z) flaw_refusal) c.link.result)
    (ap (map file_of) c.as_slice.ensures.items) c.link.ensures)
