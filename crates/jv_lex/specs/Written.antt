-- The characters of a text as they are written, and what they stand for.
use Rattle.std.specs.Prelude.{◌≡◌, ℕ, List, [], ◌∷◌, true, false}
use Rattle.jv_lex.specs.Letters.{is_line_end, is_plain, is_escape, escaped_byte}

-- A byte that stands for itself, or a backslash and the byte behind it. A character past ASCII is several bytes, each of which stands for
-- itself.
pub data Written : Type 0 where
  plain : ℕ → Written
  escaped : ℕ → Written

abbrev pub spelled : List Written → List ℕ
spelled [] = []
spelled (plain c ∷ ws) = c ∷ spelled ws
spelled (escaped c ∷ ws) = 92 ∷ c ∷ spelled ws

-- the byte that is meant
abbrev pub meant : Written → ℕ
meant (plain c) = c
meant (escaped c) = escaped_byte c

-- what stands in a text whose escapes are all right
abbrev pub IsCharacter : Written → Type 0
IsCharacter (plain c) = is_plain c ≡ true
IsCharacter (escaped c) = is_escape c ≡ true

-- the same, where a backslash may stand before any byte of the line
abbrev pub IsStroke : Written → Type 0
IsStroke (plain c) = is_plain c ≡ true
IsStroke (escaped c) = is_line_end c ≡ false
