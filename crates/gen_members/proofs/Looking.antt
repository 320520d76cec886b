-- A search through a list, from an index on.
use Rattle.std.proofs.Common.{◌≡◌, ℕ, ◌+◌, ◌<◌, ◌≤◌, List, length, map, drop, get_or, Bool, true, false, ◌||◌, sym, ap, ◌∙◌}
use Rattle.std.specs.List.{list_any}
use Rattle.std.proofs.lemmas.List.{at_drop_more, drop_all}

module _ {X Y : Type 0} (test : Y → Bool) (see : X → Y) (xs : List X) (i : ℕ) where
  next : (x : X) → i < length xs → x ≡ get_or xs i x →
      list_any test (map see (drop i xs)) ≡ (test (see x) || list_any test (map see (drop (i + 1) xs)))
  next x within is =
      at_drop_more (λ ys. list_any test (map see ys)) xs i x within
      ∙ ap (λ y. test (see y) || list_any test (map see (drop (i + 1) xs))) (sym is)

  -- it isn't this one
  pub go_on : (x : X) (all : Bool) → i < length xs → x ≡ get_or xs i x → test (see x) ≡ false → list_any test (map see (drop i xs)) ≡ all →
      list_any test (map see (drop (i + 1) xs)) ≡ all
  go_on x all within is fails l = sym (next x within is ∙ ap (λ b. b || list_any test (map see (drop (i + 1) xs))) fails) ∙ l

  -- it is this one
  pub is_there : (x : X) (all : Bool) → i < length xs → x ≡ get_or xs i x → test (see x) ≡ true → list_any test (map see (drop i xs)) ≡ all
      →
      true ≡ all
  is_there x all within is passes l = sym (next x within is ∙ ap (λ b. b || list_any test (map see (drop (i + 1) xs))) passes) ∙ l

  -- it is none
  pub is_none : (all : Bool) → length xs ≤ i → list_any test (map see (drop i xs)) ≡ all → false ≡ all
  is_none all past l = ap (λ ys. list_any test (map see ys)) (sym (drop_all i xs past)) ∙ l
