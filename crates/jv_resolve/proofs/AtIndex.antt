-- What is left of a list from an index on.
use Rattle.std.proofs.Common.{◌≡◌, ℕ, zero, suc, ◌+◌, ◌<◌, ◌≤◌, List, [], ◌∷◌, length, get_or, drop, refl, sym, ap, ◌∙◌, arith}
use Rattle.std.proofs.lemmas.List.{at_drop_more}

pub drop_at : {X : Type 0} (xs : List X) (i : ℕ) (x : X) → i < length xs → x ≡ get_or xs i x → drop i xs ≡ x ∷ drop (i + 1) xs
drop_at xs i x within is = at_drop_more (λ ys. ys) xs i x within ∙ ap (λ y. y ∷ drop (i + 1) xs) (sym is)

pub drop_end : {X : Type 0} (xs : List X) (i : ℕ) → length xs ≤ i → drop i xs ≡ []
drop_end [] zero past = refl
drop_end [] (suc i) past = refl
drop_end (x ∷ xs) zero past = let no : ⊥ = omega arith in absurd no
drop_end (x ∷ xs) (suc i) past = drop_end xs i (omega arith)
