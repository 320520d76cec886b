-- What a statement adds alone, and with those behind it.
use Rattle.std.proofs.Common.{◌≡◌, ℕ, ◌+◌, ◌<◌, ◌≤◌, get_or, drop, length, map, List, refl, sym, ap, ◌∙◌}
use Rattle.std.specs.Str.{bytes_eq}
use Rattle.std.proofs.lemmas.List.{at_drop_more, at_drop_all}
use Rattle.std.proofs.lemmas.Grind.{common_steps}
use Rattle.mg_text.specs.Call.{Name}
use Rattle.mg_text.specs.Row.{Row}
use Rattle.scr_tree.specs.declared.syntax.Message.{Message}
use Rattle.scr_tree.specs.declared.syntax.Part.{Part}
use Rattle.scr_tree.specs.declared.syntax.Statement.{Statement}
use Rattle.scr_tree.specs.declared.syntax.Statement.TheVariants as kinds
use Rattle.scr_tree.specs.Tree.{Statements, Nothing, other}
use Rattle.scr_tree.specs.View.{front, statements, bodies, part_of}
use Rattle.scr_tree.proofs.ViewLemmas.{front-Message, front-Choice, front-Rec, front-Continue, front-Do}
use Rattle.scr_tree.proofs.Behind.{each_front, statements-step, statements-past, bodies-step, bodies-past}
use Rattle.stm_client.specs.declared.points.Survey.{Survey}
use Rattle.stm_client.specs.inner.Surveyed.{counted, going_on, survey, survey_in, survey_all}

module _ (me : Name) (level : ℕ) (so_far : Survey) where
  survey-front : (s : Statement) (rest : Statements) → survey me level so_far (front s rest) ≡ survey me level
      (survey me level so_far (front s Nothing)) rest
  survey-front s rest =
      each_front (λ f. survey me level so_far (f rest) ≡ survey me level (survey me level so_far (f Nothing)) rest) (λ m. refl)
      (λ p at bs. refl) (λ p name body. refl) (λ p name. refl) (λ p name. refl) s

  pub survey-Message : (m : Message) → survey me level so_far (front (kinds.Message m) Nothing) ≡ so_far
  survey-Message m = ap (λ f. survey me level so_far (f Nothing)) (front-Message m)

  pub survey-Choice : (p : _) (at : Name) (bs : Row (Row Statement)) → survey me level so_far (front (kinds.Choice p at bs) Nothing)
      ≡ survey_in me (bytes_eq at me) level (counted (bytes_eq at me) so_far) (bodies bs.items)
  survey-Choice p at bs = ap (λ f. survey me level so_far (f Nothing)) (front-Choice p at bs)

  pub survey-Rec : (p : _) (name : Name) (body : Row Statement) → survey me level so_far (front (kinds.Rec p name body) Nothing)
      ≡ survey me level so_far (statements body.items)
  survey-Rec p name body = ap (λ f. survey me level so_far (f Nothing)) (front-Rec p name body)

  pub survey-Continue : (p : _) (name : Name) → survey me level so_far (front (kinds.Continue p name) Nothing) ≡ so_far
  survey-Continue p name = ap (λ f. survey me level so_far (f Nothing)) (front-Continue p name)

  pub survey-Do : (p : _) (name : Name) → survey me level so_far (front (kinds.Do p name) Nothing) ≡ going_on so_far
  survey-Do p name = ap (λ f. survey me level so_far (f Nothing)) (front-Do p name)

  pub survey-step : (ss : List Statement) (i : ℕ) (x : Statement) → i < length ss → x ≡ get_or ss i x →
      survey me level so_far (statements (drop i ss))
      ≡ survey me level (survey me level so_far (front x Nothing)) (statements (drop (i + 1) ss))
  survey-step ss i x within is = ap (survey me level so_far) (statements-step ss i x within is) ∙ survey-front x _

-- the protocol at an index, and those behind it
pub part-step : (me : Name) (so_far : Survey) (ps : List Part) (i : ℕ) (x : Part) → i < length ps → x ≡ get_or ps i x →
    survey_all me so_far (map other (map part_of (drop i ps)))
    ≡ survey_all me (survey me 0 so_far (statements x.body.items)) (map other (map part_of (drop (i + 1) ps)))
part-step me so_far ps i x within is =
    at_drop_more (λ qs. survey_all me so_far (map other (map part_of qs))) ps i x within
    ∙ ap (λ (y : Part). survey_all me (survey me 0 so_far (statements y.body.items)) (map other (map part_of (drop (i + 1) ps)))) (sym is)

pub part-past : (me : Name) (so_far : Survey) (ps : List Part) (i : ℕ) → length ps ≤ i →
    survey_all me so_far (map other (map part_of (drop i ps))) ≡ so_far
part-past me so_far ps i h = at_drop_all (λ qs. survey_all me so_far (map other (map part_of qs))) ps i h

pub ruleset part_steps = (common_steps, part-step, part-past)

pub ruleset survey_steps = (common_steps, survey-step, statements-past)

pub ruleset surveyed = (common_steps, survey-Message, survey-Choice, survey-Rec, survey-Continue, survey-Do)

pub ruleset survey_in_steps = (common_steps, bodies-step, bodies-past)
