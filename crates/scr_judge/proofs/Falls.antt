-- What a walk with whether control comes here finds in a statement alone, and behind it.
use Rattle.std.proofs.Common.{◌≡◌, ℕ, ◌+◌, ◌<◌, get_or, drop, length, Bool, true, false, ◌&&◌, List, Option, Some, None, refl, sym, ap, ◌∙◌}
use Rattle.std.specs.Option.{option_or}
use Rattle.std.proofs.lemmas.Grind.{common_steps}
use Rattle.mg_text.specs.Call.{Name}
use Rattle.mg_text.specs.Row.{Row}
use Rattle.scr_tree.specs.declared.syntax.Statement.{Statement}
use Rattle.scr_tree.specs.declared.syntax.Statement.TheVariants as kinds
use Rattle.scr_tree.specs.Tree.{Statements, Nothing}
use Rattle.scr_tree.specs.View.{front, statements}
use Rattle.scr_tree.proofs.ViewLemmas.{front-Message, front-Choice, front-Rec, front-Continue, front-Do}
use Rattle.mg_read.specs.Culprit.{Culprit}
use Rattle.scr_tree.specs.Control.{falls, some_falls}
use Rattle.scr_judge.specs.inner.Finding.{unreachable, unreachable_in, unreachable_behind, stands}
use Rattle.scr_tree.specs.View.{bodies}
use Rattle.scr_judge.proofs.Walks.{and_true, or_none, or-or, or_true}
use Rattle.scr_tree.proofs.Behind.{each_front, statements-step, statements-past, bodies-step, bodies-past}

pub falls-front : (s : Statement) (rest : Statements) → falls (front s rest) ≡ (falls (front s Nothing) && falls rest)
falls-front s rest =
    each_front (λ f. falls (f rest) ≡ (falls (f Nothing) && falls rest)) (λ m. refl)
    (λ p at bs. ap (λ b. b && falls rest) (and_true (some_falls bs)))
    (λ p name body. ap (λ b. b && falls rest) (and_true (falls body))) (λ p name. refl) (λ p name. refl) s

behind_nothing : (b : Bool) → None ≡ unreachable_behind b Nothing
behind_nothing true = refl
behind_nothing false = refl

alone : (o : Option Culprit) (b : Bool) (rest : Statements) →
    option_or o (unreachable_behind b rest) ≡ option_or (option_or o (unreachable_behind b Nothing)) (unreachable_behind (b && true) rest)
alone o b rest i = option_or ((or_none o ∙ ap (option_or o) (behind_nothing b)) i) (unreachable_behind (and_true b i) rest)

pub unreachable-front : (s : Statement) (rest : Statements) → unreachable (front s rest) ≡ option_or (unreachable (front s Nothing))
    (unreachable_behind (falls (front s Nothing)) rest)
unreachable-front s rest =
    each_front (λ f. unreachable (f rest) ≡ option_or (unreachable (f Nothing)) (unreachable_behind (falls (f Nothing)) rest))
    (λ m. refl) (λ p at bs. alone (unreachable_in bs) (some_falls bs) rest) (λ p name body. alone (unreachable body) (falls body) rest)
    (λ p name. refl) (λ p name. refl) s

-- a statement alone
pub unreachable-Choice : (p : _) (at : Name) (bs : Row (Row Statement)) → unreachable (front (kinds.Choice p at bs) Nothing)
    ≡ unreachable_in (bodies bs.items)
unreachable-Choice p at bs = ap (λ f. unreachable (f Nothing)) (front-Choice p at bs) ∙
    sym (or_none _ ∙ ap (option_or _) (behind_nothing _))

pub falls-Choice : (p : _) (at : Name) (bs : Row (Row Statement)) → falls (front (kinds.Choice p at bs) Nothing)
    ≡ some_falls (bodies bs.items)
falls-Choice p at bs = ap (λ f. falls (f Nothing)) (front-Choice p at bs) ∙ sym (and_true _)

pub unreachable-Rec : (p : _) (name : Name) (body : Row Statement) → unreachable (front (kinds.Rec p name body) Nothing)
    ≡ unreachable (statements body.items)
unreachable-Rec p name body = ap (λ f. unreachable (f Nothing)) (front-Rec p name body) ∙
    sym (or_none _ ∙ ap (option_or _) (behind_nothing _))

pub falls-Rec : (p : _) (name : Name) (body : Row Statement) → falls (front (kinds.Rec p name body) Nothing) ≡ falls (statements body.items)
falls-Rec p name body = ap (λ f. falls (f Nothing)) (front-Rec p name body) ∙ sym (and_true _)

-- the place of a statement does not depend on what stands behind it
pub stands-front : (s : Statement) (rest : Statements) → stands (front s rest) ≡ stands (front s Nothing)
stands-front s rest = each_front (λ f. stands (f rest) ≡ stands (f Nothing)) (λ m. refl) (λ p at bs. refl) (λ p name body. refl)
    (λ p name. refl) (λ p name. refl) s

-- the step of a walk over statements
module _ (ss : List Statement) (i : ℕ) (x : Statement) (within : i < length ss) (is : x ≡ get_or ss i x) where
  pub unreachable_later : (p : Bool) → None ≡ unreachable (front x Nothing) → p ≡ falls (front x Nothing) →
      unreachable (statements (drop i ss)) ≡ unreachable_behind p (statements (drop (i + 1) ss))
  unreachable_later p none e =
      ap unreachable (statements-step ss i x within is) ∙ unreachable-front x _
      ∙ ap (λ o. option_or o (unreachable_behind (falls (front x Nothing)) (statements (drop (i + 1) ss)))) (sym none)
      ∙ ap (λ b. unreachable_behind b (statements (drop (i + 1) ss))) (sym e)

  pub falls_later : (p : Bool) → p ≡ falls (front x Nothing) → falls (statements (drop i ss)) ≡ (p && falls (statements (drop (i + 1) ss)))
  falls_later p e = ap falls (statements-step ss i x within is) ∙ falls-front x _ ∙ ap (λ b. b && falls (statements (drop (i + 1) ss)))
      (sym e)

  pub unreachable_here : (c : Culprit) → Some c ≡ unreachable (front x Nothing) → unreachable (statements (drop i ss)) ≡ Some c
  unreachable_here c e =
      ap unreachable (statements-step ss i x within is) ∙ unreachable-front x _
      ∙ ap (λ o. option_or o (unreachable_behind (falls (front x Nothing)) (statements (drop (i + 1) ss)))) (sym e)

  pub stands_here : (c : Culprit) → stands (front x Nothing) ≡ Some c → stands (statements (drop i ss)) ≡ Some c
  stands_here c e = ap stands (statements-step ss i x within is) ∙ stands-front x _ ∙ e

pub ruleset falls_alone = (
  common_steps,
  front-Message,
  front-Choice,
  front-Rec,
  front-Continue,
  front-Do,
  unreachable-Choice,
  falls-Choice,
  unreachable-Rec,
  falls-Rec,
)

pub ruleset falls_steps = (common_steps, unreachable_later, falls_later, unreachable_here, stands_here, statements-past, and_true)

pub ruleset falls_in_steps = (common_steps, bodies-step, bodies-past, or-or, or_true, or_none)
