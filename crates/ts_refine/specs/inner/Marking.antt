-- Pairs of places by numbers, and tables of marks by such numbers.
use Rattle.std.specs.Prelude.{◌≡◌, ℕ, ◌+◌, ◌*◌, ◌/◌, ◌^◌, ◌<◌, Bool, List, length, map, Option, Some, None, option_map, option_and_then}
use Rattle.std.specs.Prelude.{slice_get, nat_eq, nat_lt, true, if◌then◌else◌}
use Rattle.mg_sets.specs.Sets.{has}
use Rattle.mg_sets.specs.Words.{bit}
use Rattle.ts_tree.specs.declared.parts.To.{To}
use Rattle.ts_tree.specs.declared.parts.To.TheVariants as tos
use Rattle.std.specs.HashSet.{contains}
use Rattle.ts_refine.specs.declared.marks.Marks.{Marks}
use Rattle.ts_refine.specs.declared.verdict.Pair.{Pair}
use Rattle.ts_refine.specs.inner.Judging.{holds}
use Rattle.ts_refine.specs.inner.Keeping.{Met}

-- the number of a place of so many states, the end after them; a state past them has none
abbrev pub place_number : ℕ → To → Option ℕ
place_number count (tos.State n) = if nat_lt n count then Some n else None
place_number count tos.End = Some count

-- the number of a pair of places of so many states each
abbrev pub number : (a b : ℕ) → Pair → Option ℕ
number a b pair = option_and_then (λ i. option_map (λ j. i * (b + 1) + j) (place_number b pair.b)) (place_number a pair.a)

-- the number of a pair, where so many words have a bit for it
abbrev pub bit_number : (count a b : ℕ) → Pair → Option ℕ
bit_number count a b pair = option_and_then (λ n. if nat_lt (n / 64) count then Some n else None) (number a b pair)

-- each pair of a number is marked where it is among these
pub record AreMarked (slot : Pair → Option ℕ) (is_marked : ℕ → Bool) (pairs : List Pair) : Type 0 where
  pub each : (pair : Pair) (i : ℕ) → slot pair ≡ Some i → is_marked i ≡ holds pairs pair

-- whether a number is marked
abbrev pub is_marked : Marks → ℕ → Bool
is_marked m n = if nat_lt n (length m.near) then has m.near n else contains nat_eq m.far n

-- what is marked, with a number, if there is one
abbrev pub marked : (ℕ → Bool) → Option ℕ → ℕ → Bool
marked is None k = is k
marked is (Some n) k = if nat_eq n k then true else is k

-- each but the first was met from an earlier one
pub record AreRooted (ms : List Met) : Type 0 where
  pub each : (i : ℕ) (m : Met) → slice_get ms i ≡ Some m → 0 < i → m.parent < i

-- what was met, with its marks
pub record IsSearch (a b : ℕ) (is : ℕ → Bool) (ms : List Met) : Type 0 where
  pub few_a : a < 2 ^ 32
  pub few_b : b < 2 ^ 32
  pub marked : AreMarked (number a b) is (map (λ m. m.pair) ms)
  pub rooted : AreRooted ms

-- pairs of a list, with a bit for each that has one
pub record AreKnown (a b : ℕ) (words : List ℕ) (pairs : List Pair) : Type 0 where
  pub few_a : a < 2 ^ 32
  pub few_b : b < 2 ^ 32
  pub noted : AreMarked (bit_number (length words) a b) (bit words) pairs
