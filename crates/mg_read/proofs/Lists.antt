-- What a loop reads is a list of what its body reads, and the other way round.
use Rattle.std.proofs.Common.{◌≡◌, ℕ, zero, suc, ◌<◌, List, [], ◌∷◌, ◌++◌, length, Bool, true, false, Some, refl, sym, ap, ◌∙◌, subst}
use Rattle.std.proofs.Common.{append_assoc, length-append, arith, inl, inr}
use Rattle.std.specs.List.{AllByRecursion}
use Rattle.mg_read.specs.Reader.{Reader, ◌>>=◌, many, all_of}
pub use Rattle.mg_read.specs.Each.{Each}
use Rattle.mg_read.proofs.Steps.{bind_some, some_is, none_is_not, chosen, Takes}

-- what holds of the elements of two lists, and of those of both in a row
pub all_both : {A : Type 0} (P : A → Type 0) (xs ys : List A) → AllByRecursion P xs → AllByRecursion P ys → AllByRecursion P (xs ++ ys)
all_both P [] ys h g = g
all_both P (x ∷ xs) ys h g = (h.0, all_both P xs ys h.1 g)

pub all_front : {A : Type 0} (P : A → Type 0) (xs ys : List A) → AllByRecursion P (xs ++ ys) → AllByRecursion P xs
all_front P [] ys h = tt
all_front P (x ∷ xs) ys h = (h.0, all_front P xs ys h.1)

pub all_back : {A : Type 0} (P : A → Type 0) (xs ys : List A) → AllByRecursion P (xs ++ ys) → AllByRecursion P ys
all_back P [] ys h = h
all_back P (x ∷ xs) ys h = all_back P xs ys h.1

-- f reads what G spells, where ok holds of what follows, and nothing else
pub record IsExact {T A : Type 0} (f : Reader T A) (G : A → List T → Type 0) (ok : List T → Type 0) : Type 0 where
  pub sound : (ts : List T) (x : A × List T) → f ts ≡ Some x → Takes (G x.0) ts x.1
  pub complete : (x : A) (ts rest : List T) → ok rest → G x ts → f (ts ++ rest) ≡ Some (x, rest)

-- go and ok hold in front of each spelling, and none is empty
pub record Starts {T A : Type 0} (go : List T → Bool) (G : A → List T → Type 0) (ok : List T → Type 0) : Type 0 where
  pub follows : (x : A) (ts rest : List T) → G x ts → ok (ts ++ rest)
  pub goes : (x : A) (ts rest : List T) → G x ts → go (ts ++ rest) ≡ true
  pub nonempty : (x : A) (ts : List T) → G x ts → 0 < length ts

module _ {T A : Type 0} (go : List T → Bool) (f : Reader T A) (G : A → List T → Type 0) (ok : List T → Type 0) (exact : IsExact f G ok)
  where
    pub many_sound : (n : ℕ) (ts : List T) (x : List A × List T) → many go f n ts ≡ Some x → Takes (Each G x.0) ts x.1
    unfolding many
    many_sound zero ts x e = absurd (none_is_not x e)
    many_sound (suc n) ts x e =
        elim (chosen (go ts) (f ts >>= λ y. many go f n y.1 >>= λ ys. Some (y.0 ∷ ys.0, ys.1)) (Some ([], ts)) (Some x) e) [
          | inl t ↦
              let y = bind_some (f ts) (λ y. many go f n y.1 >>= λ ys. Some (y.0 ∷ ys.0, ys.1)) x t.1 in
              let ys = bind_some (many go f n y.0.1) (λ ys. Some (y.0.0 ∷ ys.0, ys.1)) x y.2 in
              let one = exact.sound ts y.0 y.1 in
              let more = many_sound n y.0.1 ys.0 ys.1 in
              subst (λ (z : List A × List T). Takes (Each G z.0) ts z.1) (some_is (y.0.0 ∷ ys.0.0, ys.0.1) x ys.2)
              (record {
                front = one.front ++ more.front;
                parts = one.parts ∙ ap (λ (us : List T). one.front ++ us) more.parts ∙ sym (append_assoc one.front more.front ys.0.1);
                holds = (one.front, more.front, refl, one.holds, more.holds);
              })
          | inr h ↦ subst (λ (z : List A × List T). Takes (Each G z.0) ts z.1) (some_is ([], ts) x h.1)
              (record { front = []; parts = refl; holds = refl })
        ]

    pub each_follows : Starts go G ok → (xs : List A) (ts rest : List T) → ok rest → Each G xs ts → ok (ts ++ rest)
    each_follows starts [] ts rest fine h = rw h fine
    each_follows starts (x ∷ xs) ts rest fine (us, vs, parts, first, more) =
        rw (parts, append_assoc) (starts.follows x us (vs ++ rest) first)

    pub many_complete : Starts go G ok → (xs : List A) (n : ℕ) (ts rest : List T) → ok rest → go rest ≡ false → length ts < n → Each G xs ts
        →
        many go f n (ts ++ rest) ≡ Some (xs, rest)
    unfolding many
    many_complete starts xs zero ts rest fine stops enough h = absurd (omega arith)
    many_complete starts [] (suc n) ts rest fine stops enough h = rw (h, stops) refl
    many_complete starts (x ∷ xs) (suc n) ts rest fine stops enough (us, vs, parts, first, more) =
        let goes : go (us ++ (vs ++ rest)) ≡ true = starts.goes x us (vs ++ rest) first in
        let reads : f (us ++ (vs ++ rest)) ≡ Some (x, vs ++ rest) =
        exact.complete x us (vs ++ rest) (each_follows starts xs vs rest fine more) first in
        let shorter : length vs < n = omega (arith, starts.nonempty x us first, length-append us vs, ap length parts) in
        let inner = many_complete starts xs n vs rest fine stops shorter more in
        rw (parts, append_assoc, goes, reads, inner) refl

    pub all_sound : (ts : List T) (x : List A × List T) → all_of go f ts ≡ Some x → Takes (Each G x.0) ts x.1
    unfolding all_of
    all_sound ts x e = many_sound (suc (length ts)) ts x e

    pub all_complete : Starts go G ok → (xs : List A) (ts rest : List T) → ok rest → go rest ≡ false → Each G xs ts →
        all_of go f (ts ++ rest) ≡ Some (xs, rest)
    unfolding all_of
    all_complete starts xs ts rest fine stops h = many_complete starts xs (suc (length (ts ++ rest))) ts rest fine stops
        (omega (arith, length-append ts rest)) h
