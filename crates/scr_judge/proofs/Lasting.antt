-- A `do` behind whose choice or rec a statement stands.
use Rattle.std.proofs.Common.{◌≡◌, ℕ, suc, ◌+◌, ◌-◌, ◌<◌, nat_lt, Bool, true, false, ◌||◌, if◌then◌else◌, List, [], ◌∷◌, length, get_or}
use Rattle.std.proofs.Common.{drop, Option, Some, None, refl, sym, ap, ◌∙◌, true≢false, arith}
use Rattle.std.specs.Option.{option_or}
use Rattle.std.proofs.lemmas.List.{length-drop}
use Rattle.std.proofs.lemmas.Bool.Decides.{nat_tests}
use Rattle.std.proofs.lemmas.Grind.{common_steps}
use Rattle.mg_text.specs.Call.{Name}
use Rattle.mg_text.specs.Row.{Row}
use Rattle.mg_read.specs.Culprit.{Culprit, culprit}
use Rattle.mg_read.specs.First.{Judged, clean, here, later}
use Rattle.mg_read.proofs.Judging.{judged-append}
use Rattle.scr_tree.specs.declared.syntax.Statement.{Statement}
use Rattle.scr_tree.specs.declared.syntax.Statement.TheVariants as kinds
use Rattle.scr_tree.specs.Tree.{Statements, Nothing, Says, Choice, Rec, Continue, Do, Branches, NoBranch, Branch}
use Rattle.scr_tree.specs.View.{front, statements, bodies}
use Rattle.scr_tree.specs.Going.{NotLast, held, held_in, is_some_statement}
use Rattle.scr_tree.proofs.ViewLemmas.{front-Message, front-Choice, front-Rec, front-Continue, front-Do}
use Rattle.scr_tree.proofs.Behind.{each_front, statements-step, statements-past, bodies-step, bodies-past}
use Rattle.scr_judge.specs.inner.Gone.{not_last, not_last_at, not_last_in}

-- ---- what is found is the first

one_do : (followed : Bool) (p : _) (name : Name) (rest : _) (r : Option Culprit) → Judged NotLast rest r →
    Judged NotLast (record { place = p; name = name; followed = followed } ∷ rest) (if followed then Some (culprit p name) else r)
one_do true p name rest r j = here (refl, refl)
one_do false p name rest r j = later (λ c x. true≢false (sym x.1)) j

mutual
  pub last_exact : (followed : Bool) (ss : Statements) → Judged NotLast (held followed ss) (not_last followed ss)
  last_exact followed Nothing = clean
  last_exact followed (Says m rest) = last_exact followed rest
  last_exact followed (Choice p at bs rest) = judged-append (last_exact_in (followed || is_some_statement rest) bs)
      (last_exact followed rest)
  last_exact followed (Rec p name body rest) = judged-append (last_exact (followed || is_some_statement rest) body)
      (last_exact followed rest)
  last_exact followed (Continue p name rest) = last_exact followed rest
  last_exact followed (Do p name rest) = one_do followed p name (held followed rest) (not_last followed rest) (last_exact followed rest)

  last_exact_in : (followed : Bool) (bs : Branches) → Judged NotLast (held_in followed bs) (not_last_in followed bs)
  last_exact_in followed NoBranch = clean
  last_exact_in followed (Branch b more) = judged-append (last_exact followed b) (last_exact_in followed more)

-- ---- one statement, and those behind it

found_or : (b : Bool) (c : Culprit) (r : Option Culprit) → (if b then Some c else r) ≡ option_or (if b then Some c else None) r
found_or true c r = refl
found_or false c r = refl

last-front : (followed : Bool) (s : Statement) (rest : Statements) →
    not_last followed (front s rest) ≡ option_or (not_last_at followed (is_some_statement rest) (front s Nothing)) (not_last followed rest)
last-front followed s rest =
    each_front (λ f. not_last followed (f rest) ≡ option_or (not_last_at followed (is_some_statement rest) (f Nothing))
    (not_last followed rest))
    (λ m. refl) (λ p at bs. refl) (λ p name body. refl) (λ p name. refl)
    (λ p name. found_or followed (culprit p name) (not_last followed rest)) s

positive : (n : ℕ) → true ≡ nat_lt 0 (suc n)
positive n = grind (arith, nat_tests)

some_of : (ss : List Statement) → is_some_statement (statements ss) ≡ nat_lt 0 (length ss)
some_of [] = refl
some_of (s ∷ ss) =
    each_front (λ f. is_some_statement (f (statements ss)) ≡ nat_lt 0 (length (s ∷ ss))) (λ m. positive (length ss))
    (λ p at bs. positive (length ss)) (λ p name body. positive (length ss))
    (λ p name. positive (length ss)) (λ p name. positive (length ss)) s

more_left : (n i : ℕ) → nat_lt 0 (n - (i + 1)) ≡ nat_lt (i + 1) n
more_left n i = grind (arith, nat_tests)

some_behind : (ss : List Statement) (i : ℕ) → is_some_statement (statements (drop (i + 1) ss)) ≡ nat_lt (i + 1) (length ss)
some_behind ss i = some_of (drop (i + 1) ss) ∙ ap (nat_lt 0) (length-drop (i + 1) ss) ∙ more_left (length ss) i

module _ (followed : Bool) (ss : List Statement) (i : ℕ) (x : Statement) (within : i < length ss) (is : x ≡ get_or ss i x) (more : Bool)
    (e : more ≡ nat_lt (i + 1) (length ss)) where
  step : not_last followed (statements (drop i ss)) ≡ option_or (not_last_at followed more (front x Nothing))
      (not_last followed (statements (drop (i + 1) ss)))
  step =
      ap (not_last followed) (statements-step ss i x within is) ∙ last-front followed x (statements (drop (i + 1) ss))
      ∙ ap (λ b. option_or (not_last_at followed b (front x Nothing)) (not_last followed (statements (drop (i + 1) ss))))
      (some_behind ss i ∙ sym e)

  pub last_later : None ≡ not_last_at followed more (front x Nothing) → not_last followed (statements (drop i ss)) ≡ not_last followed
      (statements (drop (i + 1) ss))
  last_later n = step ∙ ap (λ o. option_or o (not_last followed (statements (drop (i + 1) ss)))) (sym n)

  pub last_here : (c : Culprit) → Some c ≡ not_last_at followed more (front x Nothing) → not_last followed (statements (drop i ss)) ≡ Some c
  last_here c n = step ∙ ap (λ o. option_or o (not_last followed (statements (drop (i + 1) ss)))) (sym n)

-- ---- a statement alone

pub last-Choice : (followed more : Bool) (p : _) (at : Name) (bs : Row (Row Statement)) →
    not_last_at followed more (front (kinds.Choice p at bs) Nothing) ≡ not_last_in (followed || more) (bodies bs.items)
last-Choice followed more p at bs = ap (λ f. not_last_at followed more (f Nothing)) (front-Choice p at bs)

pub last-Rec : (followed more : Bool) (p : _) (name : Name) (body : Row Statement) →
    not_last_at followed more (front (kinds.Rec p name body) Nothing) ≡ not_last (followed || more) (statements body.items)
last-Rec followed more p name body = ap (λ f. not_last_at followed more (f Nothing)) (front-Rec p name body)

pub ruleset alone = (common_steps, last-Choice, last-Rec, front-Message, front-Continue, front-Do)

pub ruleset all_steps = (common_steps, last_later, last_here, statements-past)

pub ruleset in_steps = (common_steps, bodies-step, bodies-past)
