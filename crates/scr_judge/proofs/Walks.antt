-- What a walk finds in a statement alone, and behind it.
use Rattle.std.proofs.Common.{◌≡◌, ℕ, ◌+◌, ◌<◌, length, get_or, drop, Bool, true, false, ◌&&◌, ◌||◌, if◌then◌else◌, List, [], ◌∷◌, Option}
use Rattle.std.proofs.Common.{Some, None, refl, sym, ap, ◌∙◌}
use Rattle.std.specs.Option.{option_or}
use Rattle.std.proofs.lemmas.Grind.{common_steps}
use Rattle.mg_text.specs.Call.{Name}
use Rattle.mg_text.specs.Row.{Row}
use Rattle.scr_tree.specs.declared.syntax.Statement.{Statement}
use Rattle.scr_tree.specs.declared.syntax.Statement.TheVariants as kinds
use Rattle.scr_tree.specs.Tree.{Statements, Nothing}
use Rattle.scr_tree.specs.View.{front, statements}
use Rattle.scr_tree.proofs.ViewLemmas.{each_kind, front-Message, front-Choice, front-Rec, front-Continue, front-Do}
use Rattle.mg_read.specs.Culprit.{Culprit, culprit}
use Rattle.scr_tree.specs.Control.{passes, some_passes}
use Rattle.scr_tree.proofs.Behind.{each_front, statements-step, statements-past, bodies-step, bodies-past}
use Rattle.scr_judge.specs.inner.Finding.{kept, unguarded, unguarded_in}
use Rattle.scr_judge.specs.inner.Names.{is_among}
use Rattle.scr_judge.specs.inner.Round.{is_goal, kept_goal}
use Rattle.scr_tree.specs.View.{bodies}

pub and_true : (b : Bool) → b ≡ (b && true)
and_true true = refl
and_true false = refl

pub or_none : (o : Option Culprit) → o ≡ option_or o None
or_none None = refl
or_none (Some c) = refl

found_here : (b : Bool) (c : Culprit) (r : Option Culprit) → (if b then Some c else r) ≡ option_or (if b then Some c else None) r
found_here true c r = refl
found_here false c r = refl

-- a statement, and those behind it
pub passes-front : (s : Statement) (rest : Statements) → passes (front s rest) ≡ (passes (front s Nothing) && passes rest)
passes-front s rest =
    each_front (λ f. passes (f rest) ≡ (passes (f Nothing) && passes rest)) (λ m. refl)
    (λ p at bs. ap (λ b. b && passes rest) (and_true (some_passes bs)))
    (λ p name body. ap (λ b. b && passes rest) (and_true (passes body))) (λ p name. refl) (λ p name. refl) s

pub unguarded-front : (names : List Name) (goal : Option Name) (s : Statement) (rest : Statements) →
    unguarded names goal (front s rest) ≡
    option_or (unguarded names goal (front s Nothing)) (unguarded (kept (passes (front s Nothing)) names)
    (kept_goal (passes (front s Nothing)) goal) rest)
unguarded-front names goal s rest =
    each_front (λ f. unguarded names goal (f rest) ≡ option_or (unguarded names goal (f Nothing))
    (unguarded (kept (passes (f Nothing)) names) (kept_goal (passes (f Nothing)) goal) rest))
    (λ m. refl)
    (λ p at bs i. option_or (or_none (unguarded_in names goal bs) i) (unguarded (kept (and_true (some_passes bs) i) names)
    (kept_goal (and_true (some_passes bs) i) goal) rest))
    (λ p name body i. option_or (or_none (unguarded (name ∷ names) goal body) i) (unguarded (kept (and_true (passes body) i) names)
    (kept_goal (and_true (passes body) i) goal) rest))
    (λ p name. found_here (is_among name names) (culprit p name) (unguarded [] None rest))
    (λ p name. found_here (is_goal goal name) (culprit p name) (unguarded [] None rest)) s

-- the statement at an index, and those behind it
module _ (ss : List Statement) (i : ℕ) (x : Statement) (within : i < length ss) (is : x ≡ get_or ss i x) where
  pub passes-step : passes (statements (drop i ss)) ≡ (passes (front x Nothing) && passes (statements (drop (i + 1) ss)))
  passes-step = ap passes (statements-step ss i x within is) ∙ passes-front x _

  pub unguarded-step : (names : List Name) (goal : Option Name) → unguarded names goal (statements (drop i ss)) ≡
      option_or (unguarded names goal (front x Nothing)) (unguarded (kept (passes (front x Nothing)) names)
      (kept_goal (passes (front x Nothing)) goal) (statements (drop (i + 1) ss)))
  unguarded-step names goal = ap (unguarded names goal) (statements-step ss i x within is) ∙ unguarded-front names goal x _

pub kept-kept : (b d : Bool) (names : List Name) → kept d (kept b names) ≡ kept (b && d) names
kept-kept true d names = refl
kept-kept false true names = refl
kept-kept false false names = refl

pub kept-goal : (b d : Bool) (goal : Option Name) → kept_goal d (kept_goal b goal) ≡ kept_goal (b && d) goal
kept-goal true d goal = refl
kept-goal false true goal = refl
kept-goal false false goal = refl

pub or_true : (b : Bool) → (b || true) ≡ true
or_true true = refl
or_true false = refl

pub and-or : (a b d : Bool) → ((a && b) && d) ≡ (a && (b && d))
and-or true b d = refl
and-or false b d = refl

pub or-or : (a b d : Bool) → ((a || b) || d) ≡ (a || (b || d))
or-or true b d = refl
or-or false b d = refl

-- a statement alone
pub unguarded-Choice : (p : _) (at : Name) (bs : Row (Row Statement)) (names : List Name) (goal : Option Name) →
    unguarded names goal (front (kinds.Choice p at bs) Nothing) ≡ unguarded_in names goal (bodies bs.items)
unguarded-Choice p at bs names goal = ap (λ f. unguarded names goal (f Nothing)) (front-Choice p at bs) ∙ sym (or_none _)

pub passes-Choice : (p : _) (at : Name) (bs : Row (Row Statement)) → passes (front (kinds.Choice p at bs) Nothing)
    ≡ some_passes (bodies bs.items)
passes-Choice p at bs = ap (λ f. passes (f Nothing)) (front-Choice p at bs) ∙ sym (and_true _)

pub unguarded-Rec : (p : _) (name : Name) (body : Row Statement) (names : List Name) (goal : Option Name) →
    unguarded names goal (front (kinds.Rec p name body) Nothing) ≡ unguarded (name ∷ names) goal (statements body.items)
unguarded-Rec p name body names goal = ap (λ f. unguarded names goal (f Nothing)) (front-Rec p name body) ∙ sym (or_none _)

pub passes-Rec : (p : _) (name : Name) (body : Row Statement) → passes (front (kinds.Rec p name body) Nothing)
    ≡ passes (statements body.items)
passes-Rec p name body = ap (λ f. passes (f Nothing)) (front-Rec p name body) ∙ sym (and_true _)

-- the step of a walk over statements
module _ (names : List Name) (goal : Option Name) (ss : List Statement) (i : ℕ) (x : Statement) (within : i < length ss)
    (is : x ≡ get_or ss i x) (quiet p : Bool) where
  pub unguarded_later : None ≡ unguarded (kept quiet names) (kept_goal quiet goal) (front x Nothing) → p ≡ passes (front x Nothing) →
      unguarded (kept quiet names) (kept_goal quiet goal) (statements (drop i ss)) ≡ unguarded (kept (quiet && p) names)
      (kept_goal (quiet && p) goal) (statements (drop (i + 1) ss))
  unguarded_later none e =
      unguarded-step ss i x within is (kept quiet names) (kept_goal quiet goal)
      ∙ ap (λ o. option_or o (unguarded (kept (passes (front x Nothing)) (kept quiet names))
      (kept_goal (passes (front x Nothing)) (kept_goal quiet goal)) (statements (drop (i + 1) ss)))) (sym none)
      ∙ ap (λ b. unguarded (kept b (kept quiet names)) (kept_goal b (kept_goal quiet goal)) (statements (drop (i + 1) ss))) (sym e)
      ∙ (λ j. unguarded (kept-kept quiet p names j) (kept-goal quiet p goal j) (statements (drop (i + 1) ss)))

  pub passes_later : p ≡ passes (front x Nothing) → (quiet && passes (statements (drop i ss)))
      ≡ ((quiet && p) && passes (statements (drop (i + 1) ss)))
  passes_later e = ap (λ b. quiet && b) (passes-step ss i x within is ∙ ap (λ b. b && passes (statements (drop (i + 1) ss))) (sym e)) ∙
      sym (and-or quiet p _)

  pub unguarded_here : (c : Culprit) → Some c ≡ unguarded (kept quiet names) (kept_goal quiet goal) (front x Nothing) →
      unguarded (kept quiet names) (kept_goal quiet goal) (statements (drop i ss)) ≡ Some c
  unguarded_here c e =
      unguarded-step ss i x within is (kept quiet names) (kept_goal quiet goal)
      ∙ ap (λ o. option_or o (unguarded (kept (passes (front x Nothing)) (kept quiet names))
      (kept_goal (passes (front x Nothing)) (kept_goal quiet goal)) (statements (drop (i + 1) ss)))) (sym e)

pub ruleset fronts = (
  common_steps,
  front-Message,
  front-Choice,
  front-Rec,
  front-Continue,
  front-Do,
  unguarded-Choice,
  passes-Choice,
  unguarded-Rec,
  passes-Rec,
)

pub ruleset all_steps = (common_steps, unguarded_later, passes_later, unguarded_here, statements-past, and_true)

pub ruleset in_steps = (common_steps, bodies-step, bodies-past, or-or, or_true, or_none)
