-- The parts of messages, as the protocol writes them in JSON.
use Rattle.std.specs.Prelude.{ℕ, List, [], ◌∷◌, ◌++◌, true, Option, Some, None, codes, if◌then◌else◌}
use Rattle.lsp_text.specs.declared.positions.Position.{Position}
use Rattle.lsp_text.specs.declared.changes.Range.{Range}
use Rattle.lsp_messages.specs.declared.outgoing.Diagnostic.{Diagnostic}
use Rattle.lsp_messages.specs.declared.outgoing.Hint.{Hint}
use Rattle.lsp_messages.specs.declared.outgoing.Item.{Item}
use Rattle.lsp_messages.specs.declared.outgoing.Location.{Location}
use Rattle.lsp_messages.specs.declared.outgoing.Symbol.{Symbol}
use Rattle.lsp_messages.specs.declared.outgoing.SymbolKind.{SymbolKind}
use Rattle.lsp_messages.specs.declared.outgoing.SymbolKind.TheVariants.{Class, Method, Field, Enum, Protocol, State}
use Rattle.serde_json.specs.Data.{Data, string, boolean}
use Rattle.lsp_says.specs.Objects.{object_of, count}

abbrev pub position_json : Position → Data
position_json position = object_of ((codes "line", count position.line) ∷ (codes "character", count position.character) ∷ [])

abbrev pub range_json : Range → Data
range_json range = object_of ((codes "start", position_json range.start) ∷ (codes "end", position_json range.«end») ∷ [])

abbrev pub location_json : Location → Data
location_json location = object_of ((codes "uri", string location.document) ∷ (codes "range", range_json location.range) ∷ [])

-- each is an error, which is severity 1
abbrev pub diagnostic_json : Diagnostic → Data
diagnostic_json diagnostic =
    object_of (
    (codes "range", range_json diagnostic.range) ∷
    (codes "severity", count 1) ∷
    (codes "code", string diagnostic.code) ∷
    (codes "source", string (codes "mungo")) ∷
    (codes "message", string diagnostic.message) ∷ [])

abbrev pub hint_json : Hint → Data
hint_json hint =
    object_of (
    (codes "position", position_json hint.position) ∷
    (codes "label", string hint.text) ∷
    (codes "paddingLeft", boolean true) ∷ [])

-- items are sorted by this text: first those that are always offered, each of both by its name
abbrev pub sort_text : Item → List ℕ
sort_text item = (if item.always then codes "0" else codes "1") ++ item.name

-- a method (2)
abbrev pub offered : Item → List (List ℕ × Data)
offered item =
    (codes "label", string item.name) ∷
    (codes "kind", count 2) ∷
    (codes "detail", string item.signature) ∷
    (codes "sortText", string (sort_text item)) ∷ []

-- what isn't always offered is marked
abbrev pub marked : Item → List (List ℕ × Data)
marked item = (codes "labelDetails", object_of ((codes "description", string (codes "not always")) ∷ [])) ∷ offered item

abbrev pub item_json : Item → Data
item_json item = object_of (if item.always then offered item else marked item)

-- the protocol's numbers
abbrev pub kind_number : SymbolKind → ℕ
kind_number Class = 5
kind_number Method = 6
kind_number Field = 8
kind_number Enum = 10
kind_number Protocol = 11
kind_number State = 22

abbrev pub container : Option (List ℕ) → List (List ℕ × Data)
container None = []
container (Some name) = (codes "containerName", string name) ∷ []

abbrev pub symbol_members : Symbol → Option (List ℕ) → List (List ℕ × Data)
symbol_members symbol within =
    (codes "name", string symbol.name) ∷
    (codes "kind", count (kind_number symbol.kind)) ∷
    (codes "location", location_json symbol.location) ∷
    container within

abbrev pub symbol_json : Symbol → Data
symbol_json symbol = object_of (symbol_members symbol symbol.within)
