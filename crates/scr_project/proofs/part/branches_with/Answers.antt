use Rattle.std.proofs.Common.{Some, sym, ap, ◌∙◌}
use Rattle.scr_tree.specs.Tree.{Statements, NoBranch, Branch}
use Rattle.scr_tree.specs.View.{bodies}
use Rattle.scr_global.specs.Projecting.{both, mapped}
use Rattle.scr_global_tree.proofs.Appends.{bodies-push}
use Rattle.scr_project.specs.inner.View.{says_of, say_of}
use Rattle.scr_project.proofs.Behinds.{some_beside}
use Rattle.scr_project.proofs.part.branches_with.Goals as goal

pub returns : goal.returns
returns c =
    ap Some (ap bodies c.in_ok-push.ensures.ok ∙ bodies-push c.in-Some.branches.items c.in-Some-branch.branch)
    ∙ sym (λ i. both some_beside (say_of (c.in-Some.is i))
    (mapped (λ (b : Statements). Branch b NoBranch) (says_of (c.in-Some-branch.is i))))
