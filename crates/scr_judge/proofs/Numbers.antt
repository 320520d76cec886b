-- The loop over conditions, whatever they are: `Of` says which culprit each has.
use Rattle.std.proofs.Common.{◌≡◌, ℕ, ◌+◌, ◌<◌, ◌≤◌, List, ◌∷◌, length, get_or, drop, Option, Some, None, IfOk, Result, sym, subst}
use Rattle.std.proofs.lemmas.List.{at_drop_more, at_drop_all}
use Rattle.std.proofs.lemmas.Result.{IfOk-weaker}
use Rattle.mg_text.specs.declared.memory.Memory.{Memory}
use Rattle.mg_read.specs.First.{FirstOf, none, this, next}
use Rattle.mg_read.specs.Culprit.{Culprit}
use Rattle.scr_judge.specs.inner.View.{named_of}
use Rattle.scr_judge.specs.declared.culprit.Named.{Named}

-- what the conditions from an index on answer is the answer
pub record Rest {K : Type 0} (Of : K → Option Culprit → Type 0) (ks : List K) (i : ℕ) : Type 0 where
  pub left : (r : Option (K × Culprit)) → FirstOf Of (drop i ks) r → FirstOf Of ks r

pub rest_start : {K : Type 0} (Of : K → Option Culprit → Type 0) (ks : List K) → Rest Of ks 0
rest_start Of ks = record { left = λ r f. f }

module _ {K : Type 0} (Of : K → Option Culprit → Type 0) (ks : List K) (i : ℕ) (l : Rest Of ks i) where
  pub rest_end : length ks ≤ i → FirstOf Of ks None
  rest_end h = l.left None (subst (λ xs. FirstOf Of xs None) (sym (at_drop_all (λ xs. xs) ks i h)) none)

  module _ (within : i < length ks) (d : K) where
    cut : drop i ks ≡ get_or ks i d ∷ drop (i + 1) ks
    cut = at_drop_more (λ xs. xs) ks i d within

    pub rest_here : (c : Culprit) (o : Option Named) → Of (get_or ks i d) (named_of o) → named_of o ≡ Some c →
        FirstOf Of ks (Some (get_or ks i d, c))
    rest_here c o a e = l.left _ (subst (λ xs. FirstOf Of xs (Some (get_or ks i d, c))) (sym cut)
        (this (subst (Of (get_or ks i d)) e a)))

    pub rest_later : (o : Option Named) → Of (get_or ks i d) (named_of o) → named_of o ≡ None → Rest Of ks (i + 1)
    rest_later o a e = record {
      left =
          λ r f. l.left r (subst (λ xs. FirstOf Of xs r) (sym cut) (next (subst (Of (get_or ks i d)) e a) f));
    }

-- an arm: the condition is known, and its culprit is given a name
pub arm : {K : Type 0} (Of : K → Option Culprit → Type 0) (k j : K) (o : Option Culprit) (r : Result (Option Named) Memory) → k ≡ j →
    Of j o →
    IfOk r (λ n. named_of n ≡ o) → IfOk r (λ n. Of k (named_of n))
arm Of k j o r e a h = IfOk-weaker r _ _ (λ n same. subst (λ x. Of x (named_of n)) (sym e) (subst (Of j) (sym same) a)) h

pub arm_named : {K : Type 0} (Of : K → Option Culprit → Type 0) (k j : K) (r : Result (Option Named) Memory) → k ≡ j →
    IfOk r (λ n. Of j (named_of n)) →
    IfOk r (λ n. Of k (named_of n))
arm_named Of k j r e h = IfOk-weaker r _ _ (λ n o. subst (λ x. Of x (named_of n)) (sym e) o) h
