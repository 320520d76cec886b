use Rattle.std.proofs.Common.{[], ap, ◌∙◌}
use Rattle.scr_tree.specs.View.{statements}
use Rattle.scr_judge.specs.inner.Finding.{unguarded}
use Rattle.scr_judge.specs.inner.View.{goal_of}
use Rattle.scr_judge.proofs.Guarded.{part_guarded}
use Rattle.scr_judge.proofs.cycles.Round.find_in.Goals as goal

pub returns : goal.returns
returns c = λ ps h k.
    part_guarded ps c.args.part.now (goal_of c.in_ok-goal.goal) _ (c.in_ok-goal.ensures ps h k)
    (c.find_unguarded_or.ensures ∙ ap (λ b. unguarded [] (goal_of c.in_ok-goal.goal) (statements b)) c.as_slice.ensures.items)
