-- What is said of the words of a text.
use Rattle.std.specs.Prelude.{◌≡◌, ℕ, ◌+◌, ◌&&◌, Bool, List, Option, Some, None, map, drop, position, slice_get, nat_le, option_and_then}
use Rattle.ts_tree.specs.Typestate.{Typestate}
use Rattle.lsp_text.specs.declared.encoding.Encoding.{Encoding}
use Rattle.lsp_text.specs.declared.positions.Position.{Position}
use Rattle.lsp_text.specs.declared.changes.Range.{Range}
use Rattle.lsp_text.specs.Positions.{Means}
use Rattle.lsp_text.specs.Places.{AreOffsetsOf}
use Rattle.lsp_messages.specs.declared.outgoing.Answer.{Answer}
use Rattle.lsp_messages.specs.declared.outgoing.Answer.TheVariants as answers
use Rattle.lsp_spans.specs.Words.{word_len}
use Rattle.lsp_spans.specs.Spans.{IsRangeOf}
use Rattle.lsp_defined.specs.declared.spots.Spot.{Spot}
use Rattle.lsp_defined.specs.Spots.{place_of}
use Rattle.lsp_defined.specs.Lines.{lines_of}

-- the offset stands in the word that begins here, or at one of its ends
abbrev pub covers_word : (text : List ℕ) → (offset start : ℕ) → Bool
covers_word text offset start = nat_le start offset && nat_le offset (start + word_len (drop start text))

module _ (encoding : Encoding) (text : List ℕ) where
  -- the lines that this typestate has of a spot, over its word
  abbrev pub IsSaidOf : Typestate → Option Spot → Answer → Type 0
  IsSaidOf t None a = a ≡ answers.Nothing
  IsSaidOf t (Some spot) a = (range : Range) × (a ≡ answers.Hover (lines_of t spot) range) × IsRangeOf encoding text spot.place range

  -- of the first of these whose word covers a position
  pub record IsSaidAt (at : Position) (t : Typestate) (spots : List Spot) (a : Answer) : Type 0 where
    pub starts : List ℕ
    pub stand : AreOffsetsOf text (map place_of spots) starts
    pub offset : ℕ
    pub means : Means encoding text at offset
    pub says : IsSaidOf t (option_and_then (slice_get spots) (position (covers_word text offset) starts)) a
