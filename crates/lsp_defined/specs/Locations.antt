-- Words of a document, as ranges of it.
use Rattle.std.specs.Prelude.{◌≡◌, ℕ, List, [], ◌∷◌}
use Rattle.std.specs.Str.{IsUtf8}
use Rattle.mg_text.specs.Call.{Name}
use Rattle.mg_text.specs.declared.place.Place.{Place}
use Rattle.lsp_text.specs.declared.encoding.Encoding.{Encoding}
use Rattle.lsp_messages.specs.declared.outgoing.Location.{Location}
use Rattle.lsp_spans.specs.Spans.{IsRangeOf}

module _ (encoding : Encoding) (document : Name) (text : List ℕ) where
  -- the word at a place of a document
  pub record IsLocationOf (place : Place) (location : Location) : Type 0 where
    pub document_is : location.document ≡ document
    pub range : IsRangeOf encoding text place location.range

  -- one for each place
  abbrev pub AreLocationsOf : List Place → List Location → Type 0
  AreLocationsOf [] [] = Unit {0}
  AreLocationsOf [] (l ∷ ls) = ⊥
  AreLocationsOf (p ∷ ps) [] = ⊥
  AreLocationsOf (p ∷ ps) (l ∷ ls) = IsLocationOf p l × AreLocationsOf ps ls

  -- bytes that are no text have none
  pub data AreLocated (places : List Place) : List Location → Type 0 where
    some : {locations : List Location} → IsUtf8 text → AreLocationsOf places locations → AreLocated places locations
    none : ¬ IsUtf8 text → AreLocated places []
