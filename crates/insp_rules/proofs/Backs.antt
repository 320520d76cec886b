-- Which of the first so many had a number.
use Rattle.std.proofs.Common.{◌≡◌, ◌≢◌, ◌⊎◌, inl, inr, ℕ, zero, suc, ◌<◌, Bool, true, false, Option, Some, None}
use Rattle.std.proofs.Common.{refl, sym, ap, ◌∙◌, arith}
use Rattle.std.specs.Prelude.{◌==◌, if◌then◌else◌}
use Rattle.std.proofs.lemmas.Bool.Decides.{eqb_tells}
use Rattle.insp_rules.specs.Reached.{back}

abbrev pub Tells : (i k : ℕ) → Type 0
Tells i k = ((i == k) ≡ true) × (i ≡ k) ⊎ ((i == k) ≡ false) × (i ≢ k)

pub data Back (old : ℕ → ℕ) (n g : ℕ) : Type 0 where
  found : (i : ℕ) → back old n g ≡ Some i → i < n → old i ≡ g → Back old n g
  missing : back old n g ≡ None → ((i : ℕ) → i < n → old i ≢ g) → Back old n g

pub backs : (old : ℕ → ℕ) (n g : ℕ) → Back old n g
backs old zero g = missing refl (λ i less. absurd (omega (arith, less)))
backs old (suc n) g = go (eqb_tells (old n) g) (backs old n g)
  where
    step : (b : Bool) → (old n == g) ≡ b → back old (suc n) g ≡ (if b then Some n else back old n g)
    step b e = ap (λ (b : Bool). if b then Some n else back old n g) e

    last : (i : ℕ) → i < suc n → (i < n) ⊎ (i ≡ n)
    last i less = pick (eqb_tells i n)
      where
        pick : Tells i n → (i < n) ⊎ (i ≡ n)
        pick (inl t) = inr t.1
        pick (inr t) = let ne = t.1 in inl (Rattle.std.proofs.Common.lt_of_not-le (λ le. ne (omega (arith, less, le))))

    go : Tells (old n) g → Back old n g → Back old (suc n) g
    go (inl t) r = found n (step true t.0) (omega arith) t.1
    go (inr t) (found i e less o) = found i (step false t.0 ∙ e) (omega (arith, less)) o
    go (inr t) (missing e f) = missing (step false t.0 ∙ e) (λ i less q. other i q (last i less))
      where
        other : (i : ℕ) → old i ≡ g → (i < n) ⊎ (i ≡ n) → ⊥
        other i q (inl l) = f i l q
        other i q (inr l) = t.1 (ap old (sym l) ∙ q)
