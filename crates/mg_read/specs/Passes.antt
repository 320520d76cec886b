-- Bytes that pass a test.
use Rattle.std.specs.Prelude.{◌≡◌, ℕ, List, [], ◌∷◌, length, Bool, true, false}
use Rattle.std.specs.List.{take_while}

abbrev pub AllPasses : (ℕ → Bool) → List ℕ → Type 0
AllPasses p [] = Unit {0}
AllPasses p (c ∷ cs) = (p c ≡ true) × AllPasses p cs

-- these bytes don't begin with one that passes
abbrev pub StopsAt : (ℕ → Bool) → List ℕ → Type 0
StopsAt p [] = Unit {0}
StopsAt p (c ∷ cs) = p c ≡ false

abbrev pub StartsWith : (ℕ → Bool) → List ℕ → Type 0
StartsWith p [] = ⊥
StartsWith p (c ∷ cs) = p c ≡ true

-- how many bytes at the front pass
abbrev pub span : (ℕ → Bool) → List ℕ → ℕ
span p bytes = length (take_while p bytes)
