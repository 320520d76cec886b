-- What lists contain.
use Rattle.std.proofs.Common.{◌≡◌, ℕ, zero, suc, ◌<◌, List, [], ◌∷◌, length, inl, inr, ◌⊎◌, arith}
use Rattle.std.specs.Prelude.{Contains, slice_index_or}

-- what a longer list contains is its first element, or in the rest
pub first_or_later : {X : Type 0} (y : X) (ys : List X) (x : X) → Contains (y ∷ ys) x → (y ≡ x) ⊎ Contains ys x
first_or_later {X} y ys x c = go c.0 c.1 c.2
  where
    go : (k : ℕ) → k < length (y ∷ ys) → slice_index_or (y ∷ ys) k x ≡ x → (y ≡ x) ⊎ Contains ys x
    go zero h e = inl e
    go (suc k) h e = inr (k, omega arith, e)

pub none_contained : {X : Type 0} (x : X) → Contains [] x → ⊥
none_contained x c = let h = c.1 in omega arith
