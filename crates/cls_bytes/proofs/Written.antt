-- Writing the items of a list, one after the other.
use Rattle.std.proofs.Common.{◌≡◌, ℕ, ◌≤◌, List, [], ◌∷◌, ◌++◌, length, drop, map, sym, ap, subst, ◌∙◌, append_assoc}
use Rattle.std.proofs.Common.{append-nil}
use Rattle.std.proofs.lemmas.List.{drop_all}
use Rattle.std.specs.List.{flat_map, AllByRecursion}

pub more : {B : Type 0} (g : B → List ℕ) (ys zs : List B) (y : B) (out new total : List ℕ) → ys ≡ y ∷ zs → new ≡ out ++ g y →
    out ++ flat_map g ys ≡ total → new ++ flat_map g zs ≡ total
more g ys zs y out new total e added so_far =
    let step : (out ++ g y) ++ flat_map g zs ≡ out ++ flat_map g ys = append_assoc out (g y) (flat_map g zs) ∙
    ap (λ ws. out ++ flat_map g ws) (sym e) in
    ap (λ (ws : List ℕ). ws ++ flat_map g zs) added ∙ step ∙ so_far

pub first_fits : {B : Type 0} (Fits : B → Type 0) (ys zs : List B) (y : B) → ys ≡ y ∷ zs → AllByRecursion Fits ys → Fits y
first_fits Fits ys zs y e all = (subst (AllByRecursion Fits) e all).0

pub others_fit : {B : Type 0} (Fits : B → Type 0) (ys zs : List B) (y : B) → ys ≡ y ∷ zs → AllByRecursion Fits ys → AllByRecursion Fits zs
others_fit Fits ys zs y e all = (subst (AllByRecursion Fits) e all).1

pub all_written : {A : Type 0} (g : A → List ℕ) (xs : List A) (i : ℕ) (out total : List ℕ) → length xs ≤ i →
    out ++ flat_map g (drop i xs) ≡ total → out ≡ total
all_written g xs i out total le so_far =
    let none : drop i xs ≡ [] = drop_all i xs le in
    sym (append-nil out) ∙ ap (λ ys. out ++ flat_map g ys) (sym none) ∙ so_far

pub all_mapped : {A B : Type 0} (g : B → List ℕ) (view : A → B) (xs : List A) (i : ℕ) (out total : List ℕ) → length xs ≤ i →
    out ++ flat_map g (map view (drop i xs)) ≡ total → out ≡ total
all_mapped g view xs i out total le so_far =
    let none : drop i xs ≡ [] = drop_all i xs le in
    sym (append-nil out) ∙ ap (λ ys. out ++ flat_map g (map view ys)) (sym none) ∙ so_far

-- three writes are one
pub three : (o o₁ o₂ o₃ a b c : List ℕ) → o₁ ≡ o ++ a → o₂ ≡ o₁ ++ b → o₃ ≡ o₂ ++ c → o₃ ≡ o ++ (a ++ (b ++ c))
three o o₁ o₂ o₃ a b c h₁ h₂ h₃ = rw (h₃, h₂, h₁) (simp append_assoc)
