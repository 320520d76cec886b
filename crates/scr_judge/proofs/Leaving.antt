-- The `do`s to which control can come with no message, of a statement alone, and behind it.
use Rattle.std.proofs.Common.{◌≡◌, ℕ, ◌+◌, ◌<◌, length, get_or, drop, Bool, true, false, ◌&&◌, ◌||◌, if◌then◌else◌, List, [], ◌∷◌, ◌++◌}
use Rattle.std.proofs.Common.{refl, sym, ap, ◌∙◌, append_assoc}
use Rattle.std.proofs.lemmas.List.{append-nil}
use Rattle.std.proofs.lemmas.Grind.{common_steps}
use Rattle.mg_text.specs.Call.{Name}
use Rattle.mg_text.specs.Row.{Row}
use Rattle.scr_tree.specs.declared.syntax.Statement.{Statement}
use Rattle.scr_tree.specs.declared.syntax.Statement.TheVariants as kinds
use Rattle.scr_tree.specs.Tree.{Statements, Nothing, Says, Choice, Rec, Continue, Do, Branches, NoBranch, Branch}
use Rattle.scr_tree.specs.View.{front, statements, bodies}
use Rattle.scr_tree.specs.Control.{passes, some_passes}
use Rattle.scr_tree.proofs.ViewLemmas.{front-Message, front-Choice, front-Rec, front-Continue, front-Do}
use Rattle.scr_tree.proofs.Behind.{each_front, statements-step, statements-past, bodies-step, bodies-past}
use Rattle.scr_judge.specs.inner.Round.{gone, gone_in}
use Rattle.scr_judge.proofs.Walks.{and_true, or-or, or_true, passes-Choice, passes-Rec, passes_later}

and_false : (b : Bool) → (b && false) ≡ false
and_false true = refl
and_false false = refl

both_none : {xs ys : List Name} → xs ≡ [] → ys ≡ [] → xs ++ ys ≡ []
both_none e f = λ i. e i ++ f i

-- where control can't come at once, nothing is gone to
mutual
  pub none_gone : (ss : Statements) → gone false ss ≡ []
  none_gone Nothing = refl
  none_gone (Says m rest) = none_gone rest
  none_gone (Choice p at bs rest) = both_none (none_gone_in bs) (ap (λ b. gone b rest) (and_false (some_passes bs)) ∙ none_gone rest)
  none_gone (Rec p name body rest) = both_none (none_gone body) (ap (λ b. gone b rest) (and_false (passes body)) ∙ none_gone rest)
  none_gone (Continue p name rest) = none_gone rest
  none_gone (Do p name rest) = none_gone rest

  pub none_gone_in : (bs : Branches) → gone_in false bs ≡ []
  none_gone_in NoBranch = refl
  none_gone_in (Branch b more) = both_none (none_gone b) (none_gone_in more)

-- a statement, and those behind it
gone-front : (at_once : Bool) (s : Statement) (rest : Statements) → gone at_once (front s rest) ≡ gone at_once (front s Nothing)
    ++ gone (passes (front s Nothing) && at_once) rest
gone-front at_once s rest =
    each_front (λ f. gone at_once (f rest) ≡ gone at_once (f Nothing) ++ gone (passes (f Nothing) && at_once) rest) (λ m. refl)
    (λ p at bs i. sym (append-nil (gone_in at_once bs)) i ++ gone (and_true (some_passes bs) i && at_once) rest)
    (λ p name body i. sym (append-nil (gone at_once body)) i ++ gone (and_true (passes body) i && at_once) rest)
    (λ p name. refl)
    (λ p name i. sym (append-nil (if at_once then name ∷ [] else [])) i ++ gone false rest) s

and-swap : (p quiet at_once : Bool) → (p && (quiet && at_once)) ≡ ((quiet && p) && at_once)
and-swap true true at_once = refl
and-swap true false at_once = refl
and-swap false true at_once = refl
and-swap false false at_once = refl

module _ (at_once : Bool) (ss : List Statement) (i : ℕ) (x : Statement) (within : i < length ss) (is : x ≡ get_or ss i x)
    (quiet p : Bool) where
  pub gone_step : p ≡ passes (front x Nothing) →
      gone (quiet && at_once) (statements (drop i ss)) ≡ gone (quiet && at_once) (front x Nothing) ++ gone ((quiet && p) && at_once)
      (statements (drop (i + 1) ss))
  gone_step e =
      ap (gone (quiet && at_once)) (statements-step ss i x within is) ∙ gone-front (quiet && at_once) x (statements (drop (i + 1) ss))
      ∙ ap (λ b. gone (quiet && at_once) (front x Nothing) ++ gone b (statements (drop (i + 1) ss)))
      (ap (λ b. b && (quiet && at_once)) (sym e) ∙ and-swap p quiet at_once)

-- a statement alone
pub gone-Choice : (at_once : Bool) (p : _) (at : Name) (bs : Row (Row Statement)) → gone at_once (front (kinds.Choice p at bs) Nothing)
    ≡ gone_in at_once (bodies bs.items)
gone-Choice at_once p at bs = ap (λ f. gone at_once (f Nothing)) (front-Choice p at bs) ∙ append-nil _

pub gone-Rec : (at_once : Bool) (p : _) (name : Name) (body : Row Statement) → gone at_once (front (kinds.Rec p name body) Nothing)
    ≡ gone at_once (statements body.items)
gone-Rec at_once p name body = ap (λ f. gone at_once (f Nothing)) (front-Rec p name body) ∙ append-nil _

pub gone-Do : (at_once : Bool) (p : _) (name : Name) → gone at_once (front (kinds.Do p name) Nothing) ≡ (if at_once then name ∷ [] else [])
gone-Do at_once p name = ap (λ f. gone at_once (f Nothing)) (front-Do p name) ∙ append-nil _

pub ruleset alone = (
  common_steps,
  gone-Choice,
  gone-Rec,
  gone-Do,
  passes-Choice,
  passes-Rec,
  front-Message,
  front-Continue,
  front-Do,
  append-nil,
)

pub ruleset all_steps = (common_steps, gone_step, passes_later, statements-past, and_true, append_assoc, append-nil)

pub ruleset in_steps = (common_steps, bodies-step, bodies-past, or-or, or_true, append_assoc, append-nil)
