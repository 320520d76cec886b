-- Where a walk over a text has come to.
use Rattle.std.specs.Prelude.{◌≡◌, ℕ, ◌+◌, ◌≤◌, List, length}
use Rattle.lsp_text.specs.declared.places.Spot.{Spot}
use Rattle.lsp_text.specs.Places.{here, place_at}

-- the line and column are those behind so many bytes of the text
pub record IsSpot (text : List ℕ) (spot : Spot) : Type 0 where
  pub within : spot.offset ≤ length text
  pub place : (file : ℕ) → here file spot.line spot.column ≡ place_at file text spot.offset
  pub lines : spot.line ≤ 1 + spot.offset
  pub columns : spot.column ≤ 1 + spot.offset
