-- Places that wait, and the list of them.
use Rattle.std.specs.Prelude.{◌≡◌, ℕ, List, get_or, Bool, true, false, Contains}

abbrev pub AreOrdered : (places : List Bool) → (order : List ℕ) → Type 0
AreOrdered places order = (place : ℕ) → get_or places place false ≡ true → Contains order place

-- but one of them
abbrev pub OthersOrdered : (places : List Bool) → (order : List ℕ) → (but : ℕ) → Type 0
OthersOrdered places order but = (place : ℕ) → (place ≡ but → ⊥) → get_or places place false ≡ true → Contains order place
