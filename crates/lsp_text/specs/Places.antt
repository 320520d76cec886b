-- Offsets of mungo's places: their lines end with line feeds alone, their columns count bytes, and both begin with 1.
use Rattle.std.specs.Prelude.{◌≡◌, ℕ, ◌<◌, ◌≤◌, List, [], ◌∷◌, length, take, ◌⊎◌, ⊤}
use Rattle.mg_text.specs.declared.place.Place.{Place}
use Rattle.mg_text.specs.Places.{start_of, place_after}

-- the place behind so many bytes of a text
abbrev pub place_at : ℕ → List ℕ → ℕ → Place
place_at file text offset = place_after (start_of file) (take offset text)

abbrev pub here : ℕ → ℕ → ℕ → Place
here file line column = record { file = file; line = line; column = column }

-- the one place isn't behind the other
abbrev pub IsReached : Place → Place → Type 0
IsReached one other = (one.line < other.line) ⊎ ((one.line ≡ other.line) × (one.column ≤ other.column))

-- This is the last offset of the text whose place isn't behind this one: for a place of the text its own, and behind a line's end that
-- end. Where no place is before it, as in line 0, it is the text's start.
pub record IsOffsetOf (text : List ℕ) (place : Place) (offset : ℕ) : Type 0 where
  pub within : offset ≤ length text
  pub reached : 0 < offset → IsReached (place_at place.file text offset) place
  pub last : (o : ℕ) → o ≤ length text → IsReached (place_at place.file text o) place → o ≤ offset

-- these are the offsets of these places, one for each
abbrev pub AreOffsetsOf : List ℕ → List Place → List ℕ → Type 0
AreOffsetsOf text [] [] = ⊤
AreOffsetsOf text [] (o ∷ os) = ⊥
AreOffsetsOf text (p ∷ ps) [] = ⊥
AreOffsetsOf text (p ∷ ps) (o ∷ os) = IsOffsetOf text p o × AreOffsetsOf text ps os
