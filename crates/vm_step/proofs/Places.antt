-- Places in a list that is seen as another.
use Rattle.std.proofs.Common.{◌≡◌, ◌+◌, Bool, not, cond, List, [], ◌∷◌, length, map, Some, None, nat_lt, refl, ap, ◌∙◌}
use Rattle.std.proofs.lemmas.List.{length-map}
use Rattle.std.specs.List.{position, position_or_len}

module _ {A B : Type 0} (f : A → B) (p : B → Bool) where
  prefix-map : (xs : List A) → position_or_len p (map f xs) ≡ position_or_len (λ x. p (f x)) xs
  prefix-map [] = refl
  prefix-map (x ∷ xs) = ap (λ n. cond (not (p (f x))) (1 + n) 0) (prefix-map xs)

  pub position-map : (xs : List A) → position p (map f xs) ≡ position (λ x. p (f x)) xs
  position-map xs =
      ap (λ n. cond (nat_lt n (length (map f xs))) (Some n) None) (prefix-map xs)
      ∙ ap (λ k. cond (nat_lt (position_or_len (λ x. p (f x)) xs) k) (Some (position_or_len (λ x. p (f x)) xs)) None) (length-map xs f)
