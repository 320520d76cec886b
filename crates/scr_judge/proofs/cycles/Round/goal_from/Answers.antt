use Rattle.std.proofs.Common.{◌≡◌, ◌++◌, true, ap, subst, ◌∙◌}
use Rattle.std.proofs.lemmas.Result.{IfOk-weaker}
use Rattle.scr_tree.specs.Going.{Leads}
use Rattle.scr_tree.specs.View.{statements}
use Rattle.scr_judge.specs.inner.Own.{FirstIn}
use Rattle.scr_judge.specs.inner.Round.{FoundBad, gone, titles}
use Rattle.scr_judge.specs.inner.View.{goal_of, told_names}
use Rattle.scr_judge.proofs.cycles.Round.goal_from.Goals as goal

pub returns : goal.returns
returns c =
    let told : told_names c.as_slice-2.result.now ≡ gone true (statements c.args.part.now.body.items) =
    ap told_names c.as_slice-2.ensures.value ∙ c.in_ok-gone_all.ensures.names
    ∙ ap (λ l. told_names l ++ gone true (statements c.as_slice.result.now)) c.new-names.ensures.items ∙
    ap (λ b. gone true (statements b)) c.as_slice.ensures.items in
    IfOk-weaker c.first_back.result _ _
    (λ g f ps to h k. subst (λ ns. FirstIn (FoundBad (λ n. Leads (titles ps) n to)) ns (goal_of g)) told (f ps to h k)) c.first_back.ensures
