-- The range of the word at a place of mungo.
use Rattle.std.specs.Prelude.{ℕ, ◌+◌, List, [], ◌∷◌, drop}
use Rattle.mg_text.specs.declared.place.Place.{Place}
use Rattle.lsp_text.specs.declared.encoding.Encoding.{Encoding}
use Rattle.lsp_text.specs.declared.changes.Range.{Range}
use Rattle.lsp_text.specs.Positions.{IsPositionOf}
use Rattle.lsp_text.specs.Places.{IsOffsetOf}
use Rattle.lsp_spans.specs.Words.{word_len}

-- it goes from the place to the end of the word that stands there
pub record IsRangeOf (encoding : Encoding) (text : List ℕ) (place : Place) (range : Range) : Type 0 where
  pub offset : ℕ
  pub stands : IsOffsetOf text place offset
  pub begins : IsPositionOf encoding text offset range.start
  pub ends : IsPositionOf encoding text (offset + word_len (drop offset text)) range.end

-- one for each place
abbrev pub AreRangesOf : Encoding → List ℕ → List Place → List Range → Type 0
AreRangesOf encoding text [] [] = Unit {0}
AreRangesOf encoding text [] (r ∷ rs) = ⊥
AreRangesOf encoding text (p ∷ ps) [] = ⊥
AreRangesOf encoding text (p ∷ ps) (r ∷ rs) = IsRangeOf encoding text p r × AreRangesOf encoding text ps rs
