-- Answers, as the protocol writes them in JSON.
use Rattle.std.specs.Prelude.{ℕ, List, [], ◌∷◌, true, codes}
use Rattle.lsp_text.specs.declared.changes.Range.{Range}
use Rattle.lsp_text.specs.declared.encoding.Encoding.{Encoding}
use Rattle.lsp_text.specs.declared.encoding.Encoding.TheVariants.{Utf8, Utf16}
use Rattle.lsp_messages.specs.declared.outgoing.Answer.{Answer}
use Rattle.lsp_messages.specs.declared.outgoing.Answer.TheVariants as answers
use Rattle.serde_json.specs.Data.{Data, null, string, boolean}
use Rattle.lsp_says.specs.Objects.{object_of, list_of, count}
use Rattle.lsp_says.specs.Parts.{range_json, location_json, hint_json, item_json, symbol_json}

abbrev pub encoding_name : Encoding → List ℕ
encoding_name Utf8 = codes "utf-8"
encoding_name Utf16 = codes "utf-16"

-- documents are told when they are opened, closed and saved, and changed range by range (2)
abbrev pub sync_json : Data
sync_json = object_of ((codes "openClose", boolean true) ∷ (codes "change", count 2) ∷ (codes "save", boolean true) ∷ [])

-- an object with one member, a list of one text
abbrev pub listing : List ℕ → List ℕ → Data
listing name text = object_of ((name, list_of string (text ∷ [])) ∷ [])

-- What the server can do. Methods are offered behind a dot, and a command draws diagrams.
abbrev pub capabilities_json : Encoding → Data
capabilities_json encoding =
    object_of (
    (codes "positionEncoding", string (encoding_name encoding)) ∷
    (codes "textDocumentSync", sync_json) ∷
    (codes "hoverProvider", boolean true) ∷
    (codes "inlayHintProvider", boolean true) ∷
    (codes "completionProvider", listing (codes "triggerCharacters") (codes ".")) ∷
    (codes "definitionProvider", boolean true) ∷
    (codes "documentSymbolProvider", boolean true) ∷
    (codes "executeCommandProvider", listing (codes "commands") (codes "mungo.diagram")) ∷ [])

abbrev pub server_json : Encoding → Data
server_json encoding =
    object_of (
    (codes "capabilities", capabilities_json encoding) ∷
    (codes "serverInfo", object_of ((codes "name", string (codes "mungo-lsp")) ∷ [])) ∷ [])

abbrev pub hover_json : List ℕ → Range → Data
hover_json text range =
    object_of (
    (codes "contents", object_of ((codes "kind", string (codes "plaintext")) ∷ (codes "value", string text) ∷ [])) ∷
    (codes "range", range_json range) ∷ [])

abbrev pub answer_json : Answer → Data
answer_json answers.Nothing = null
answer_json (answers.Capabilities encoding) = server_json encoding
answer_json (answers.Hover text range) = hover_json text range
answer_json (answers.Completion items) = list_of item_json items.items
answer_json (answers.Hints hints) = list_of hint_json hints.items
answer_json (answers.Definition locations) = list_of location_json locations.items
answer_json (answers.Symbols symbols) = list_of symbol_json symbols.items
answer_json (answers.Diagram text) = string text
