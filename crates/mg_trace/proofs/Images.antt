-- What stands at a place among images of a list, or else this.
use Rattle.std.proofs.Common.{◌≡◌, ◌<◌, ℕ, zero, suc, List, [], ◌∷◌, ◌++◌, map, length, get_or, refl, ap, arith}
use Rattle.std.specs.Prelude.{slice_set}

module _ {A B : Type 0} (f : A → B) (d : B) where
  abbrev pub image : List A → ℕ → B
  image xs i = get_or (map f xs) i d

  -- what was put at a place, and what stands at others
  pub here : (xs : List A) (i : ℕ) (x : A) → i < length xs → image (slice_set xs i x) i ≡ f x
  here [] i x lt = absurd (omega arith)
  here (y ∷ xs) zero x lt = refl
  here (y ∷ xs) (suc i) x lt = here xs i x (omega arith)

  pub there : (xs : List A) (i k : ℕ) (x : A) → (i ≡ k → ⊥) → image (slice_set xs i x) k ≡ image xs k
  there [] i k x apart = refl
  there (y ∷ xs) zero zero x apart = absurd (apart refl)
  there (y ∷ xs) zero (suc k) x apart = refl
  there (y ∷ xs) (suc i) zero x apart = refl
  there (y ∷ xs) (suc i) (suc k) x apart = there xs i k x (λ e. apart (ap suc e))

  -- the image of what stands there
  pub image_is : (xs : List A) (i : ℕ) (x : A) → i < length xs → x ≡ get_or xs i x → f x ≡ image xs i
  image_is [] i x lt is = absurd (omega arith)
  image_is (y ∷ xs) zero x lt is = ap f is
  image_is (y ∷ xs) (suc i) x lt is = image_is xs i x (omega arith) is

  -- one more that is nothing else
  pub padded : (xs : List A) (x : A) (i : ℕ) → f x ≡ d → image (xs ++ x ∷ []) i ≡ image xs i
  padded [] x zero is = is
  padded [] x (suc i) is = refl
  padded (y ∷ xs) x zero is = refl
  padded (y ∷ xs) x (suc i) is = padded xs x i is
