-- Looking through lists from the front.
use Rattle.std.proofs.Common.{◌≡◌, ℕ, zero, suc, ◌<◌, ◌≤◌, Bool, true, false, ◌||◌, List, [], ◌∷◌, length, map, take, get_or}
use Rattle.std.proofs.Common.{Some, None, refl, ap, arith}
use Rattle.std.proofs.lemmas.Option.{slice_get-map}
use Rattle.std.proofs.lemmas.Bool.Decides.{nat_tests}
use Rattle.std.specs.List.{position, position_or_len, list_any}

pub ruleset found = (slice_get-map)

-- what is looked for isn't first, or is
later : {X : Type 0} (p : X → Bool) (x : X) (xs : List X) (i : ℕ) → p x ≡ false → position p xs ≡ Some i →
    position p (x ∷ xs) ≡ Some (suc i)
later p x xs i h at = rw h (grind (arith, nat_tests))

not_there : {X : Type 0} (p : X → Bool) (x : X) (xs : List X) → p x ≡ false → position p xs ≡ None → position p (x ∷ xs) ≡ None
not_there p x xs h none = rw h (grind (arith, nat_tests))

at_once : {X : Type 0} (p : X → Bool) (x : X) (xs : List X) → p x ≡ true → position p (x ∷ xs) ≡ Some 0
at_once p x xs h = rw h (grind (arith, nat_tests))

either_false : (a b : Bool) → (a || b) ≡ false → (a ≡ false) × (b ≡ false)
either_false true b h = absurd cc
either_false false b h = (refl, h)

module _ {X Y : Type 0} (p : Y → Bool) (f : X → Y) where
  -- the first that passes
  pub first_at : (xs : List X) (i : ℕ) (d : X) → i < length xs → list_any p (map f (take i xs)) ≡ false → p (f (get_or xs i d)) ≡ true →
      position p (map f xs) ≡ Some i
  first_at [] i d lt none here = absurd (omega arith)
  first_at (x ∷ xs) zero d lt none here = at_once p (f x) (map f xs) here
  first_at (x ∷ xs) (suc i) d lt none here =
      let e = either_false (p (f x)) (list_any p (map f (take i xs))) none in
      later p (f x) (map f xs) i e.0 (first_at xs i d (omega arith) e.1 here)

  -- none passes
  pub none_passes : (xs : List X) (i : ℕ) → length xs ≤ i → list_any p (map f (take i xs)) ≡ false → position p (map f xs) ≡ None
  none_passes [] i past none = refl
  none_passes (x ∷ xs) zero past none = absurd (omega arith)
  none_passes (x ∷ xs) (suc i) past none =
      let e = either_false (p (f x)) (list_any p (map f (take i xs))) none in
      not_there p (f x) (map f xs) e.0 (none_passes xs i (omega arith) e.1)

-- the place of the first that passes
module _ {X : Type 0} (p : X → Bool) where
  pub first_index : (xs : List X) (i : ℕ) (d : X) → i < length xs → list_any p (take i xs) ≡ false → p (get_or xs i d) ≡ true →
      position_or_len p xs ≡ i
  first_index [] i d lt none here = absurd (omega arith)
  first_index (x ∷ xs) zero d lt none here = rw here refl
  first_index (x ∷ xs) (suc i) d lt none here =
      let e = either_false (p x) (list_any p (take i xs)) none in
      let ih : position_or_len p xs ≡ i = first_index xs i d (omega arith) e.1 here in
      rw e.0 (omega arith)

  pub no_index : (xs : List X) (i : ℕ) → length xs ≤ i → list_any p (take i xs) ≡ false → position_or_len p xs ≡ length xs
  no_index [] i past none = refl
  no_index (x ∷ xs) zero past none = absurd (omega arith)
  no_index (x ∷ xs) (suc i) past none =
      let e = either_false (p x) (list_any p (take i xs)) none in
      let ih : position_or_len p xs ≡ length xs = no_index xs i (omega arith) e.1 in
      rw e.0 (omega arith)
