-- The lines of a text.
use Rattle.std.specs.Prelude.{◌==◌, if◌then◌else◌, ℕ, suc, List, [], ◌∷◌}

abbrev pub longer : ℕ → List (List ℕ) → List (List ℕ)
longer c [] = (c ∷ []) ∷ []
longer c (line ∷ more) = (c ∷ line) ∷ more

-- A line feed ends a line, and what stands behind the last one is a line too, which may be empty.
abbrev pub lines : List ℕ → List (List ℕ)
lines [] = [] ∷ []
lines (c ∷ cs) = if c == 10 then [] ∷ lines cs else longer c (lines cs)

-- a line, with its number
pub record Line : Type 0 where
  pub number : ℕ
  pub text : List ℕ

-- lines, numbered from here on
abbrev pub numbered : ℕ → List (List ℕ) → List Line
numbered n [] = []
numbered n (text ∷ more) = record { number = n; text = text } ∷ numbered (suc n) more
