-- The outline of a statement alone, and of those behind it.
use Rattle.std.proofs.Common.{◌≡◌, ℕ, ◌+◌, ◌<◌, ◌≤◌, length, get_or, drop, List, [], ◌∷◌, ◌++◌, Option, Some, None, refl, sym, ap, ◌∙◌}
use Rattle.std.proofs.lemmas.Grind.{common_steps}
use Rattle.mg_text.specs.Call.{Name}
use Rattle.mg_text.specs.Row.{Row}
use Rattle.mg_text.specs.declared.place.Place.{Place}
use Rattle.scr_tree.specs.declared.syntax.Payload.{Payload}
use Rattle.scr_tree.specs.declared.syntax.Statement.{Statement}
use Rattle.scr_tree.specs.Tree as local
use Rattle.scr_tree.specs.View as locals
use Rattle.scr_tree.proofs.ViewLemmas as local_views
use Rattle.scr_global.specs.Tree.{Statements, Nothing, Says, Choice, Rec, Continue, Branches, NoBranch, Branch}
use Rattle.scr_global.specs.Texts.{behind}
use Rattle.scr_global_tree.specs.declared.statement.GStatement.{GStatement}
use Rattle.scr_global_tree.specs.declared.statement.GStatement.TheVariants as kinds
use Rattle.scr_global_tree.specs.View.{front, statements, bodies, told}
use Rattle.scr_global_tree.proofs.Appends.{behind_nothing, behind_both, beside, beside_none, beside_both, statements-push, bodies-push}
use Rattle.scr_global_tree.proofs.Behind.{each_front, statements-step, statements-past, bodies-step, bodies-past}
use Rattle.scr_global_tree.proofs.ViewLemmas.{front-Message, front-Choice, front-Rec, front-Continue}
use Rattle.scr_global_judge.specs.inner.Outline.{way_of, outline_of, outlined, outlined_each}

outlined-front : (begins : Option Name) (x : GStatement) (rest : Statements) → outlined begins (front x rest) ≡ behind
    (outlined begins (front x Nothing)) (outlined None rest)
outlined-front begins x rest =
    each_front (λ f. outlined begins (f rest) ≡ behind (outlined begins (f Nothing)) (outlined None rest)) (λ m. refl) (λ p at bs. refl)
    (λ p name body. refl) (λ p name. refl) x

-- ---- turns of the loops

module _ (begins : Option Name) (ss : List GStatement) (i : ℕ) where
  pub outline_past : (made : List Statement) → length ss ≤ i → behind (locals.statements made) (outlined begins (statements (drop i ss))) ≡
      locals.statements made
  outline_past made h = ap (λ (s : Statements). behind (locals.statements made) (outlined begins s)) (statements-past ss i h) ∙
      behind_nothing (locals.statements made)

  pub outline_later : (x : GStatement) → i < length ss → x ≡ get_or ss i x → (made more : List Statement) (next : Statement) →
      locals.front next local.Nothing ≡ outlined begins (front x Nothing) →
      more ≡ made ++ next ∷ [] → behind (locals.statements made) (outlined begins (statements (drop i ss))) ≡ behind
      (locals.statements more) (outlined None (statements (drop (i + 1) ss)))
  outline_later x within is made more next e f =
      ap (λ (s : Statements). behind (locals.statements made) (outlined begins s)) (statements-step ss i x within is)
      ∙ ap (behind (locals.statements made)) (outlined-front begins x (statements (drop (i + 1) ss)))
      ∙ ap (λ (s : local.Statements). behind (locals.statements made) (behind s (outlined None (statements (drop (i + 1) ss))))) (sym e)
      ∙ sym (behind_both (locals.statements made) (locals.front next local.Nothing) (outlined None (statements (drop (i + 1) ss))))
      ∙ ap (λ (s : local.Statements). behind s (outlined None (statements (drop (i + 1) ss))))
      (sym (ap locals.statements f ∙ statements-push made next))

module _ (at : Name) (bs : List (Row GStatement)) (i : ℕ) where
  pub branches_past : (made : List (Row Statement)) → length bs ≤ i → beside (locals.bodies made) (outlined_each at (bodies (drop i bs))) ≡
      locals.bodies made
  branches_past made h = ap (λ (s : Branches). beside (locals.bodies made) (outlined_each at s)) (bodies-past bs i h) ∙
      beside_none (locals.bodies made)

  pub branches_later : (x : Row GStatement) → i < length bs → x ≡ get_or bs i x → (made more : List (Row Statement)) (next : Row Statement)
      →
      locals.statements next.items ≡ outlined (Some at) (statements x.items) → more ≡ made ++ next ∷ [] →
      beside (locals.bodies made) (outlined_each at (bodies (drop i bs))) ≡ beside (locals.bodies more)
      (outlined_each at (bodies (drop (i + 1) bs)))
  branches_later x within is made more next e f =
      ap (λ (s : Branches). beside (locals.bodies made) (outlined_each at s)) (bodies-step bs i x within is)
      ∙ ap (λ (s : local.Statements). beside (locals.bodies made) (local.Branch s (outlined_each at (bodies (drop (i + 1) bs))))) (sym e)
      ∙ sym (beside_both (locals.bodies made) (local.Branch (locals.statements next.items) local.NoBranch)
      (outlined_each at (bodies (drop (i + 1) bs))))
      ∙ ap (λ (s : local.Branches). beside s (outlined_each at (bodies (drop (i + 1) bs))))
      (sym (ap locals.bodies f ∙ bodies-push made next))

-- ---- a statement alone

pub outlined-Message : (begins : Option Name) (place : Place) (from to label : Name) (payload : Payload) →
    outlined begins (front (kinds.Message place from to label payload) Nothing) ≡ local.Says
    (record { place = place; direction = way_of begins from; peer = to; label = label; payload = payload }) local.Nothing
outlined-Message begins place from to label payload = ap (λ (f : Statements → Statements). outlined begins (f Nothing))
    (front-Message place from to label payload)

pub outlined-Choice : (begins : Option Name) (place : Place) (at : Name) (bs : Row (Row GStatement)) →
    outlined begins (front (kinds.Choice place at bs) Nothing) ≡ local.Choice place [] (outlined_each at (bodies bs.items)) local.Nothing
outlined-Choice begins place at bs = ap (λ (f : Statements → Statements). outlined begins (f Nothing)) (front-Choice place at bs)

pub outlined-Rec : (begins : Option Name) (place : Place) (name : Name) (body : Row GStatement) →
    outlined begins (front (kinds.Rec place name body) Nothing) ≡ local.Rec place name (outlined None (statements body.items)) local.Nothing
outlined-Rec begins place name body = ap (λ (f : Statements → Statements). outlined begins (f Nothing)) (front-Rec place name body)

pub outlined-Continue : (begins : Option Name) (place : Place) (name : Name) → outlined begins (front (kinds.Continue place name) Nothing) ≡
    local.Continue place name local.Nothing
outlined-Continue begins place name = ap (λ (f : Statements → Statements). outlined begins (f Nothing)) (front-Continue place name)

pub ruleset all_steps = (common_steps, outline_later, outline_past)

pub ruleset in_steps = (common_steps, branches_later, branches_past)

pub ruleset alone = (
  common_steps,
  outlined-Message,
  outlined-Choice,
  outlined-Rec,
  outlined-Continue,
  local_views.front-Message,
  local_views.front-Choice,
  local_views.front-Rec,
  local_views.front-Continue,
)
