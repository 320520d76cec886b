-- Things and their ranges, one by one.
use Rattle.std.specs.Prelude.{List, [], ◌∷◌}
use Rattle.mg_text.specs.Call.{Name}
use Rattle.mg_text.specs.declared.place.Place.{Place}
use Rattle.lsp_text.specs.declared.changes.Range.{Range}
use Rattle.lsp_messages.specs.declared.outgoing.Symbol.{Symbol}
use Rattle.lsp_symbols.specs.declared.things.Declared.{Declared}

abbrev pub place_of : Declared → Place
place_of d = d.place

abbrev pub symbol_of : (document : Name) → Declared → Range → Symbol
symbol_of document d range = record {
  name = d.name;
  kind = d.kind;
  location = record { document = document; range = range };
  within = d.within;
}

abbrev pub symbols : (document : Name) → List Declared → List Range → List Symbol
symbols document [] ranges = []
symbols document (d ∷ ds) [] = []
symbols document (d ∷ ds) (range ∷ ranges) = symbol_of document d range ∷ symbols document ds ranges
