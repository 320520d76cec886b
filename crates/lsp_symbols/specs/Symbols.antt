-- What a document declares, as symbols.
use Rattle.std.specs.Prelude.{◌≡◌, ℕ, List, [], ◌∷◌}
use Rattle.std.specs.Str.{IsUtf8}
use Rattle.mg_text.specs.Call.{Name}
use Rattle.mg_sources.specs.Files.{source_of}
use Rattle.lsp_text.specs.declared.encoding.Encoding.{Encoding}
use Rattle.lsp_messages.specs.declared.outgoing.Symbol.{Symbol}
use Rattle.lsp_spans.specs.Spans.{IsRangeOf}
use Rattle.lsp_symbols.specs.declared.things.Declared.{Declared}
use Rattle.lsp_symbols.specs.Declares.{Declares}

module _ (encoding : Encoding) (document : Name) (text : List ℕ) where
  -- the thing as a symbol, over the name where it stands in the text of the document
  pub record IsSymbol (thing : Declared) (symbol : Symbol) : Type 0 where
    pub name : symbol.name ≡ thing.name
    pub kind : symbol.kind ≡ thing.kind
    pub within : symbol.within ≡ thing.within
    pub document_is : symbol.location.document ≡ document
    pub range : IsRangeOf encoding text thing.place symbol.location.range

  -- one for each thing, in their order
  abbrev pub AreSymbolsOf : List Declared → List Symbol → Type 0
  AreSymbolsOf [] [] = Unit {0}
  AreSymbolsOf [] (s ∷ ss) = ⊥
  AreSymbolsOf (t ∷ ts) [] = ⊥
  AreSymbolsOf (t ∷ ts) (s ∷ ss) = IsSymbol t s × AreSymbolsOf ts ss

-- the symbols of all that a document of this text declares; its name is that by which the editor knows it
pub record AreShown (encoding : Encoding) (document : Name) (text : List ℕ) (symbols : List Symbol) : Type 0 where
  pub things : List Declared
  pub declared : Declares (source_of 0 document text) things
  pub are : AreSymbolsOf encoding document text things symbols

-- the symbols of a document; bytes that are no text have none
pub data AreSymbols (encoding : Encoding) (document : Name) (bytes : List ℕ) : List Symbol → Type 0 where
  some : {symbols : List Symbol} → IsUtf8 bytes → AreShown encoding document bytes symbols → AreSymbols encoding document bytes symbols
  none : (IsUtf8 bytes → ⊥) → AreSymbols encoding document bytes []
