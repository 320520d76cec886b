-- How many characters of a line are within a limit, and how the end of a line is read.
use Rattle.std.specs.Prelude.{◌≡◌, ℕ, ◌-◌, List, [], ◌∷◌, ◌++◌, length, nat_lt, true, if◌then◌else◌}
use Rattle.lsp_text.specs.declared.encoding.Encoding.{Encoding}
use Rattle.lsp_text.specs.Units.{unit_count}
use Rattle.lsp_text.specs.Lines.{End, spell, MayStand, is_line_end}

-- the longest beginning of these characters that counts at most the limit
abbrev pub fitting : Encoding → ℕ → List ℕ → List ℕ
fitting e limit [] = []
fitting e limit (c ∷ cs) = if nat_lt limit (unit_count e c) then [] else c ∷ fitting e (limit - unit_count e c) cs

-- a byte of a line's end stands in front
abbrev pub BeginsWithEnd : List ℕ → Type 0
BeginsWithEnd bytes = (b : ℕ) × (bs : List ℕ) × (bytes ≡ b ∷ bs) × (is_line_end b ≡ true)

-- in front stands a line's end of this length
pub record IsEndLength (bytes : List ℕ) (n : ℕ) : Type 0 where
  pub ending : End
  pub after : List ℕ
  pub spells : bytes ≡ spell ending ++ after
  pub stands : MayStand ending after
  pub long : n ≡ length (spell ending)
