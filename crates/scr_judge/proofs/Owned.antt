-- What each protocol of a file answers alone, put together.
use Rattle.std.proofs.Common.{◌≡◌, ◌≢◌, refl, ℕ, ◌+◌, ◌<◌, ◌≤◌, List, [], ◌∷◌, length, get_or, drop, map, Option, Some, None, IfOk, Result, sym, ap}
use Rattle.std.proofs.Common.{subst, ◌∙◌}
use Rattle.std.specs.Option.{option_or}
use Rattle.std.proofs.lemmas.List.{at_drop_more, at_drop_all}
use Rattle.std.proofs.lemmas.Result.{IfOk-weaker}
use Rattle.mg_text.specs.declared.memory.Memory.{Memory}
use Rattle.mg_read.specs.Culprit.{Culprit}
use Rattle.mg_read.specs.First.{Judged, clean}
use Rattle.mg_read.proofs.Judging.{judged-append, judged-found, judged-map}
use Rattle.scr_tree.specs.declared.condition.Condition.{Condition}
use Rattle.scr_tree.specs.declared.condition.Condition.TheVariants as conditions
use Rattle.scr_tree.specs.Spots.{each_of, Spot, spots, all_spots}
use Rattle.scr_tree.specs.Tree.{Statements}
use Rattle.scr_tree.specs.Written.{WrittenPart}
use Rattle.scr_judge.specs.declared.culprit.Named.{Named}
use Rattle.scr_judge.specs.inner.Own.{OfOwn, FirstIn, none, here, later}
use Rattle.scr_judge.specs.inner.Listed.{first_among}
use Rattle.scr_judge.specs.inner.View.{named_of}

-- an arm: the condition is known, and its culprit is given a name
pub own_arm : (p : WrittenPart) (k j : Condition) (o : Option Culprit) (r : Result (Option Named) Memory) → k ≡ j → OfOwn j p o →
    IfOk r (λ n. named_of n ≡ o) → IfOk r (λ n. OfOwn k p (named_of n))
own_arm p k j o r e a h = IfOk-weaker r _ _ (λ n same. subst (λ x. OfOwn x p (named_of n)) (sym e) (subst (OfOwn j p) (sym same) a)) h

-- a condition of a whole file finds nothing
pub no_own : (p : WrittenPart) (k : Condition) → k ≢ conditions.UnknownRole → k ≢ conditions.PeerIsSelf → k ≢ conditions.UnknownRec → k ≢ conditions.DuplicateRec
    → k ≢ conditions.Unreachable → k ≢ conditions.BranchStart → k ≢ conditions.MixedChoice → k ≢ conditions.SameLabel → k ≢ conditions.ReservedLabel → OfOwn k p None
no_own p conditions.UnknownRole a b c d e f g h i = absurd (a refl)
no_own p conditions.PeerIsSelf a b c d e f g h i = absurd (b refl)
no_own p conditions.UnknownRec a b c d e f g h i = absurd (c refl)
no_own p conditions.DuplicateRec a b c d e f g h i = absurd (d refl)
no_own p conditions.Unreachable a b c d e f g h i = absurd (e refl)
no_own p conditions.BranchStart a b c d e f g h i = absurd (f refl)
no_own p conditions.MixedChoice a b c d e f g h i = absurd (g refl)
no_own p conditions.SameLabel a b c d e f g h i = absurd (h refl)
no_own p conditions.ReservedLabel a b c d e f g h i = absurd (i refl)
no_own p _ a b c d e f g h i = refl

-- ---- a loop over protocols

module _ {P C : Type 0} (At : P → Option C → Type 0) where
  -- what those from an index on answer is the answer
  pub record Rest (ps : List P) (i : ℕ) : Type 0 where
    pub left : (r : Option C) → FirstIn At (drop i ps) r → FirstIn At ps r

  pub rest_start : (ps : List P) → Rest ps 0
  rest_start ps = record { left = λ r f. f }

  module _ (ps : List P) (i : ℕ) (l : Rest ps i) where
    pub rest_end : length ps ≤ i → FirstIn At ps None
    rest_end h = l.left None (subst (λ xs. FirstIn At xs None) (sym (at_drop_all (λ xs. xs) ps i h)) none)

    module _ (within : i < length ps) (x : P) (is : x ≡ get_or ps i x) where
      cut : drop i ps ≡ x ∷ drop (i + 1) ps
      cut = at_drop_more (λ xs. xs) ps i x within ∙ ap (λ y. y ∷ drop (i + 1) ps) (sym is)

      pub rest_here : (c : C) (o : Option C) → At x o → o ≡ Some c → FirstIn At ps (Some c)
      rest_here c o a e = l.left _ (subst (λ xs. FirstIn At xs (Some c)) (sym cut) (here (subst (At x) e a)))

      pub rest_later : (o : Option C) → At x o → o ≡ None → Rest ps (i + 1)
      rest_later o a e = record { left = λ r f. l.left r (subst (λ xs. FirstIn At xs r) (sym cut) (later (subst (At x) e a) f)) }

  -- the first one, and those behind it
  pub first_then : (p : P) (ps : List P) (o r : Option C) → At p o → FirstIn At ps r → FirstIn At (p ∷ ps) (option_or o r)
  first_then p ps None r a f = later a f
  first_then p ps (Some c) r a f = here a

  -- what each answers is right
  pub first_in : (f : P → Option C) → ((p : P) → At p (f p)) → (ps : List P) → FirstIn At ps (first_among f ps)
  first_in f right [] = none
  first_in f right (p ∷ ps) = first_then p ps (f p) (first_among f ps) (right p) (first_in f right ps)

-- of what they are seen as
pub first_map : {P Q C : Type 0} (At : Q → Option C → Type 0) (f : P → Q) {ps : List P} {r : Option C} → FirstIn (λ p. At (f p)) ps r →
    FirstIn At (map f ps) r
first_map At f none = none
first_map At f (here a) = here a
first_map At f (later a more) = later a (first_map At f more)

-- ---- from protocols to what they hold

module _ {P X : Type 0} (At : P → X → Culprit → Type 0) (f : P → List X) where
  -- each with its protocol
  paired : (p : P) {xs : List X} {r : Option Culprit} → Judged (At p) xs r → Judged (λ (q : P × X). At q.0 q.1) (map (λ x. (p, x)) xs) r
  paired p j = judged-map (λ x. (p, x)) (λ x c a. a) (λ x c a. a) j

  pub each_judged : {ps : List P} {r : Option Culprit} → FirstIn (λ p. Judged (At p) (f p)) ps r →
      Judged (λ (q : P × X). At q.0 q.1) (each_of f ps) r
  each_judged none = clean
  each_judged (here {p = p} {ps = ps} a) = judged-found (each_of f ps) (paired p a)
  each_judged (later {p = p} a more) = judged-append (paired p a) (each_judged more)

-- the statements alone
pub all_judged : {P : Type 0} (At : Spot → Culprit → Type 0) (body : P → Statements) {ps : List P} {r : Option Culprit} →
    FirstIn (λ p. Judged At (spots [] (body p))) ps r →
    Judged At (all_spots (map body ps)) r
all_judged At body none = clean
all_judged At body (here {p = p} {ps = ps} a) = judged-found (all_spots (map body ps)) a
all_judged At body (later a more) = judged-append a (all_judged At body more)
