use Rattle.std.proofs.Common.{◌∙◌, List, map, ap}
use Rattle.std.proofs.lemmas.Result.{IfOk-weaker}
use Rattle.scr_tree.specs.declared.syntax.Part.{Part}
use Rattle.scr_tree.specs.declared.syntax.Statement.{Statement}
use Rattle.scr_tree.specs.Local.{tree_of}
use Rattle.scr_tree.specs.Tree.{other, titled}
use Rattle.scr_tree.specs.View.{statements, part_of}
use Rattle.stm_client.specs.inner.Surveyed.{nothing_yet, survey, survey_all}
use Rattle.stm_client.proofs.Surveyed.{survey-is}
use Rattle.stm_client.proofs.survey.survey_of.Goals as goal

pub returns : goal.returns
returns c =
    let tree = tree_of c.args.local.now in
    let body = ap (λ (ss : List Statement). statements ss) c.as_slice.ensures.items ∙ c.body.ensures in
    let others = ap (λ (ps : List Part). map part_of ps) c.as_slice-2.ensures.items ∙ c.others.ensures in
    let first = c.in_ok-first.ensures ∙ (λ k. survey (c.me-me.ensures k) 0 nothing_yet (body k)) in
    IfOk-weaker c.survey_parts.result _ _ (λ s e. e ∙ (λ k. survey_all (c.me-me.ensures k) (first k) (map other (others k)))
    ∙ survey-is tree.me (titled tree)) c.survey_parts.ensures
