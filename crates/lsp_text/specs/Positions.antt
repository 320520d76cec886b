-- Positions, and the offsets that they mean.
use Rattle.std.specs.Prelude.{◌≡◌, ℕ, ◌+◌, ◌-◌, ◌<◌, ◌≤◌, List, [], ◌∷◌, ◌++◌, length, slice_index, ◌⊎◌, ⊤}
use Rattle.std.specs.Str.{NonePass, encode_utf8_all}
use Rattle.lsp_text.specs.declared.encoding.Encoding.{Encoding}
use Rattle.lsp_text.specs.declared.positions.Position.{Position}
use Rattle.lsp_text.specs.Units.{units}
use Rattle.lsp_text.specs.Lines.{is_line_end, IsBehind}

-- A place of the text: between two characters of a line, or at either end of one. Behind so many lines its line begins, and has
-- these characters before it, which end no line and count so much; so many bytes of the text stand before it.
pub record Stands (encoding : Encoding) (text : List ℕ) (line character offset : ℕ) : Type 0 where
  pub rest : List ℕ
  pub before : List ℕ
  pub behind : List ℕ
  pub lines : IsBehind line text rest
  pub cut : rest ≡ encode_utf8_all before ++ behind
  pub plain : NonePass is_line_end (encode_utf8_all before)
  pub counts : character ≡ units encoding before
  pub here : offset + length behind ≡ length text

-- this offset is the last place of its line that isn't behind the character
pub record IsLastWithin (encoding : Encoding) (text : List ℕ) (line character offset : ℕ) : Type 0 where
  pub column : ℕ
  pub stands : Stands encoding text line column offset
  pub within : column ≤ character
  pub last : (c o : ℕ) → Stands encoding text line c o → c ≤ character → c ≤ column

-- the text doesn't have so many line ends
abbrev pub HasNoLine : List ℕ → ℕ → Type 0
HasNoLine text line = (rest : List ℕ) → ¬ IsBehind line text rest

-- A position means this offset: that of the last place of its line that isn't behind it, so that behind the line's end it means the
-- end, and within a character the character's beginning. In a line that isn't there it means the end of the text.
abbrev pub Means : Encoding → List ℕ → Position → ℕ → Type 0
Means encoding text position offset =
    IsLastWithin encoding text position.line position.character offset ⊎ (HasNoLine text position.line × (offset ≡ length text))

-- the position is that of the last place that isn't behind the offset
pub record IsPositionOf (encoding : Encoding) (text : List ℕ) (offset : ℕ) (position : Position) : Type 0 where
  pub place : ℕ
  pub stands : Stands encoding text position.line position.character place
  pub within : place ≤ offset
  pub last : (l c o : ℕ) → Stands encoding text l c o → o ≤ offset → o ≤ place

-- these are the positions of these offsets, one for each
abbrev pub ArePositionsOf : Encoding → List ℕ → List ℕ → List Position → Type 0
ArePositionsOf encoding text [] [] = ⊤
ArePositionsOf encoding text [] (p ∷ ps) = ⊥
ArePositionsOf encoding text (o ∷ os) [] = ⊥
ArePositionsOf encoding text (o ∷ os) (p ∷ ps) = IsPositionOf encoding text o p × ArePositionsOf encoding text os ps

-- the offset stands between a carriage return and its line feed
pub record IsBetween (text : List ℕ) (offset : ℕ) : Type 0 where
  pub behind_one : 0 < offset
  pub carriage : slice_index text (offset - 1) ≡ 13
  pub feed : slice_index text offset ≡ 10
