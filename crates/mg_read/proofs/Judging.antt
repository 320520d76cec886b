-- Judging by parts.
use Rattle.std.proofs.Common.{◌≡◌, List, [], ◌∷◌, ◌++◌, map, Option, Some, None, refl, ap, subst}
use Rattle.std.specs.Option.{option_or}
use Rattle.mg_read.specs.First.{Judged, clean, here, later, FirstOf, none, this, next, Clean, found}
use Rattle.mg_read.specs.FirstLaws.{IsSingle, Splits}

module _ {X C : Type 0} {At : X → C → Type 0} where
  -- nothing was found in front, or something was
  pub judged-append : {xs ys : List X} {r s : Option C} → Judged At xs r → Judged At ys s → Judged At (xs ++ ys) (option_or r s)
  judged-append clean q = q
  judged-append (here a) q = here a
  judged-append (later n p) q = later n (judged-append p q)

  -- behind a culprit nothing is looked at
  pub judged-found : {xs : List X} {c : C} (ys : List X) → Judged At xs (Some c) → Judged At (xs ++ ys) (Some c)
  judged-found ys p = go ys _ _ p refl
    where
      go : {xs : List X} (ys : List X) (r : Option C) (c : C) → Judged At xs r → r ≡ Some c → Judged At (xs ++ ys) (Some c)
      go ys r c clean e = let no : ⊥ = cc in absurd no
      go ys r c (here {x = x} {xs = xs} {c = d} a) e = let same : d ≡ c = cc in here (subst (At x) same a)
      go ys r c (later n p) e = later n (go ys r c p e)

  pub judged-clean : {xs : List X} → Judged At xs None → Clean At xs
  judged-clean p = go _ p refl
    where
      go : {xs : List X} (r : Option C) → Judged At xs r → r ≡ None → Clean At xs
      go r clean e = tt
      go r (here a) e = let no : ⊥ = cc in absurd no
      go r (later n p) e = (n, go r p e)

  pub clean-judged : (xs : List X) → Clean At xs → Judged At xs None
  clean-judged [] h = clean
  clean-judged (x ∷ xs) h = later h.0 (clean-judged xs h.1)

  -- there is one answer
  pub one_answer : {xs : List X} {r s : Option C} → IsSingle At → Judged At xs r → Judged At xs s → r ≡ s
  one_answer single p q = go single p q refl
    where
      go : {xs ys : List X} {r s : Option C} → IsSingle At → Judged At xs r → Judged At ys s → xs ≡ ys → r ≡ s
      go single clean clean e = refl
      go single clean (here a) e = let no : ⊥ = cc in absurd no
      go single clean (later n q) e = let no : ⊥ = cc in absurd no
      go single (here a) clean e = let no : ⊥ = cc in absurd no
      go single (here {x = x} {c = c} a) (here {x = y} {c = d} b) e =
          let same : y ≡ x = cc in ap Some (single x c d a (subst (λ z. At z d) same b))
      go single (here {x = x} {c = c} a) (later {x = y} n q) e = let same : x ≡ y = cc in absurd (n c (subst (λ z. At z c) same a))
      go single (later n p) clean e = let no : ⊥ = cc in absurd no
      go single (later {x = x} n p) (here {x = y} {c = d} b) e = let same : y ≡ x = cc in absurd (n d (subst (λ z. At z d) same b))
      go single (later {xs = xs} n p) (later {xs = zs} m q) e = let same : xs ≡ zs = cc in go single p q same

  -- what stands before the culprit is clean
  pub splits : {xs : List X} {c : C} → Judged At xs (Some c) → Splits At xs c
  splits p = go _ _ p refl
    where
      go : {xs : List X} (r : Option C) (c : C) → Judged At xs r → r ≡ Some c → Splits At xs c
      go r c clean e = let no : ⊥ = cc in absurd no
      go r c (here {x = x} {xs = xs} {c = d} a) e = let same : d ≡ c = cc in ([], x, xs, refl, tt, subst (At x) same a)
      go r c (later {x = x} n p) e = let h = go r c p e in (x ∷ h.0, h.1, h.2, ap (λ t. x ∷ t) h.3, (n, h.4), h.5)

-- the same culprits, told in another way
pub judged-map : {X Y C : Type 0} {At : X → C → Type 0} {By : Y → C → Type 0} (f : X → Y) → ((x : X) (c : C) → At x c → By (f x) c) →
    ((x : X) (c : C) → By (f x) c → At x c) →
    {xs : List X} {r : Option C} → Judged At xs r → Judged By (map f xs) r
judged-map f to from clean = clean
judged-map f to from (here {x = x} {c = c} a) = here (to x c a)
judged-map f to from (later {x = x} n p) = later (λ c b. n c (from x c b)) (judged-map f to from p)

-- the same culprits at the same elements
pub judged-same : {X C : Type 0} {At By : X → C → Type 0} → ((x : X) (c : C) → At x c → By x c) → ((x : X) (c : C) → By x c → At x c) →
    {xs : List X} {r : Option C} → Judged At xs r → Judged By xs r
judged-same to from clean = clean
judged-same to from (here {x = x} {c = c} a) = here (to x c a)
judged-same to from (later {x = x} n p) = later (λ c b. n c (from x c b)) (judged-same to from p)

-- conditions in two runs
pub first_of-append : {K C : Type 0} {Of : K → Option C → Type 0} {ks ls : List K} {r : Option (K × C)} → FirstOf Of ks None →
    FirstOf Of ls r → FirstOf Of (ks ++ ls) r
first_of-append p q = go _ p refl q
  where
    go : {K C : Type 0} {Of : K → Option C → Type 0} {ks ls : List K} {r : Option (K × C)} (s : Option (K × C)) → FirstOf Of ks s → s ≡ None
        → FirstOf Of ls r → FirstOf Of (ks ++ ls) r
    go s none e q = q
    go s (this a) e q = let no : ⊥ = cc in absurd no
    go s (next n p) e q = next n (go s p e q)

-- there is one answer, where each condition has one
pub one_first : {K C : Type 0} {Of : K → Option C → Type 0} → ((k : K) (r s : Option C) → Of k r → Of k s → r ≡ s) →
    {ks : List K} {r s : Option (K × C)} → FirstOf Of ks r → FirstOf Of ks s → r ≡ s
one_first single p q = go single p q refl
  where
    go : {K C : Type 0} {Of : K → Option C → Type 0} → ((k : K) (r s : Option C) → Of k r → Of k s → r ≡ s) →
        {ks ls : List K} {r s : Option (K × C)} → FirstOf Of ks r → FirstOf Of ls s → ks ≡ ls → r ≡ s
    go single none none e = refl
    go single none (this a) e = let no : ⊥ = cc in absurd no
    go single none (next n q) e = let no : ⊥ = cc in absurd no
    go single (this a) none e = let no : ⊥ = cc in absurd no
    go {Of = Of} single (this {k = k} {c = c} a) (this {k = j} {c = d} b) e =
        let same : j ≡ k = cc in let told : Some c ≡ Some d = single k (Some c) (Some d) a (subst (λ z. Of z (Some d)) same b) in cc
    go {Of = Of} single (this {k = k} {c = c} a) (next {k = j} n q) e =
        let same : j ≡ k = cc in let told : Some c ≡ None = single k (Some c) None a (subst (λ z. Of z None) same n) in let no : ⊥ = cc in
        absurd no
    go single (next n p) none e = let no : ⊥ = cc in absurd no
    go {Of = Of} single (next {k = k} n p) (this {k = j} {c = d} b) e =
        let same : k ≡ j = cc in let told : None ≡ Some d = single j None (Some d) (subst (λ z. Of z None) same n) b in let no : ⊥ = cc in
        absurd no
    go single (next {ks = ks} n p) (next {ks = ls} m q) e = let same : ks ≡ ls = cc in go single p q same

-- nothing is found where something is
pub no_both : {X C : Type 0} {At : X → C → Type 0} {xs : List X} {c : C} → Judged At xs None → Judged At xs (Some c) → ⊥
no_both p q = go (judged-clean p) _ q refl
  where
    go : {X C : Type 0} {At : X → C → Type 0} {xs : List X} {c : C} → Clean At xs → (r : Option C) → Judged At xs r → r ≡ Some c → ⊥
    go h r clean e = cc
    go h r (here {c = d} a) e = h.0 d a
    go h r (later n p) e = go h.1 r p e

pub no_both_first : {K C : Type 0} {Of : K → Option C → Type 0} → ((k : K) (c : C) → Of k None → Of k (Some c) → ⊥) →
    {ks : List K} {f : K × C} → FirstOf Of ks None → FirstOf Of ks (Some f) → ⊥
no_both_first {K} {C} {Of} never {ks} {f} p q = go ks ks None (Some f) p q refl refl refl
  where
    go : (ks ls : List K) (r s : Option (K × C)) → FirstOf Of ks r → FirstOf Of ls s → ks ≡ ls → r ≡ None → s ≡ Some f → ⊥
    go ks ls r s none none e n m = cc
    go ks ls r s none (this b) e n m = cc
    go ks ls r s none (next x q) e n m = cc
    go ks ls r s (this a) q e n m = cc
    go ks ls r s (next x p) none e n m = cc
    go ks ls r s (next {k = k} x p) (this {k = j} {c = c} b) e n m = let same : j ≡ k = cc in never k c x
        (subst (λ z. Of z (Some c)) same b)
    go ks ls r s (next {ks = as'} x p) (next {ks = bs'} y q) e n m = let same : as' ≡ bs' = cc in go _ _ r s p q same n m
