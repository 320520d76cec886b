-- Which message a text is.
use Rattle.std.specs.Prelude.{ℕ, ℤ, pos, List, [], ◌∷◌, Bool, false, ◌||◌, Option, Some, None, is_some, codes, if◌then◌else◌}
use Rattle.std.specs.Prelude.{option_and_then, option_map, unwrap_or}
use Rattle.std.specs.Str.{bytes_eq}
use Rattle.lsp_text.specs.declared.changes.Range.{Range}
use Rattle.lsp_messages.specs.declared.id.Id.{Id}
use Rattle.lsp_messages.specs.declared.id.Id.TheVariants.{Number, Name}
use Rattle.lsp_messages.specs.declared.incoming.Call.{Call}
use Rattle.lsp_messages.specs.declared.incoming.Call.TheVariants as calls
use Rattle.lsp_messages.specs.declared.incoming.Question.{Question}
use Rattle.lsp_messages.specs.declared.incoming.Question.TheVariants as questions
use Rattle.serde_json.specs.Data.{Data, null, boolean, number, string, array, object, Items, no_items, item}
use Rattle.serde_json.specs.Find.{get, as_str, as_null, as_number, as_i64, as_array}
use Rattle.lsp_json.specs.declared.methods.Asked.{Asked}
use Rattle.lsp_json.specs.declared.methods.Asked.TheVariants as asked
use Rattle.lsp_json.specs.declared.methods.Told.{Told}
use Rattle.lsp_json.specs.declared.methods.Told.TheVariants as told
use Rattle.lsp_json.specs.Fields.{text_at, range_of, range_at, document_of, point_of, both}
use Rattle.lsp_json.specs.Methods.{asked_by, told_by}
use Rattle.lsp_json.specs.Heard.{Edit, Tidings, initialized, opened, changed, saved, closed, exit, cancelled, unknown}
use Rattle.lsp_json.specs.Heard.{Heard, request, tidings, reply, malformed, ill}

-- ids are whole numbers of 64 bits and texts
abbrev pub id_of : Data → Option Id
id_of null = None
id_of (boolean b) = None
id_of (number n) = option_map Number (as_i64 n)
id_of (string s) = Some (Name s)
id_of (array ds) = None
id_of (object ms) = None

-- the items of a list by its name
abbrev pub list_at : List ℕ → Data → Option Items
list_at name d = option_and_then as_array (get name d)

-- whether a text is this one, and whether one of the items is
abbrev pub is_text : List ℕ → Option (List ℕ) → Bool
is_text text None = false
is_text text (Some s) = bytes_eq s text

abbrev pub has_text : List ℕ → Items → Bool
has_text text no_items = false
has_text text (item d ds) = is_text text (as_str d) || has_text text ds

-- whether the client can count in bytes of UTF-8
abbrev pub has_utf8 : Option Items → Bool
has_utf8 None = false
has_utf8 (Some ds) = has_text (codes "utf-8") ds

abbrev pub knows_utf8 : Data → Bool
knows_utf8 params =
    has_utf8 (option_and_then (list_at (codes "positionEncodings"))
    (option_and_then (get (codes "general")) (get (codes "capabilities") params)))

-- the first argument of a command, where it is a text
abbrev pub first_text : Option Items → Option (List ℕ)
first_text None = None
first_text (Some no_items) = None
first_text (Some (item d ds)) = as_str d

abbrev pub argument_of : Data → Option (List ℕ)
argument_of params = first_text (list_at (codes "arguments") params)

-- the one command is the diagram of a document
abbrev pub diagram_of : Data → Option (List ℕ)
diagram_of params = if is_text (codes "mungo.diagram") (text_at (codes "command") params) then argument_of params else None

abbrev pub hints_of : Data → Option Question
hints_of params = both questions.Hints (document_of params) (range_at (codes "range") params)

-- a question, where its parameters are the protocol's
abbrev pub asks : Option Question → Call
asks None = calls.BadParameters
asks (Some question) = calls.Ask question

abbrev pub call_of : Asked → Data → Call
call_of asked.Initialize params = calls.Initialize (knows_utf8 params)
call_of asked.Shutdown params = calls.Shutdown
call_of asked.Hover params = asks (option_map questions.Hover (point_of params))
call_of asked.Completion params = asks (option_map questions.Completion (point_of params))
call_of asked.Definition params = asks (option_map questions.Definition (point_of params))
call_of asked.Hints params = asks (hints_of params)
call_of asked.Symbols params = asks (option_map questions.Symbols (document_of params))
call_of asked.Command params = asks (option_map questions.Diagram (diagram_of params))
call_of asked.Unknown params = calls.Unknown

-- a document's version, which is 0 where none is told
abbrev pub version_of : Option Data → ℤ
version_of None = pos 0
version_of (Some document) =
    unwrap_or (option_and_then (λ d. option_and_then as_i64 (as_number d)) (get (codes "version") document)) (pos 0)

-- What becomes this text: the whole, or what stands in a range.
abbrev pub whole_edit : List ℕ → Edit
whole_edit text = record { range = None; text = text }

abbrev pub range_edit : List ℕ → Range → Edit
range_edit text range = record { range = Some range; text = text }

-- a change, where it has a text, and a range or none; a range that is null is none
abbrev pub edit_with : Option Data → List ℕ → Option Edit
edit_with None text = Some (whole_edit text)
edit_with (Some d) text = if is_some (as_null d) then Some (whole_edit text) else option_map (range_edit text) (range_of d)

abbrev pub edit_of : Data → Option Edit
edit_of d = option_and_then (edit_with (get (codes "range") d)) (text_at (codes "text") d)

-- all changes, or none
abbrev pub edits_of : Items → Option (List Edit)
edits_of no_items = Some []
edits_of (item d ds) = both (λ edit edits. edit ∷ edits) (edit_of d) (edits_of ds)

abbrev pub changes_of : Data → Option (List Edit)
changes_of params = option_and_then edits_of (list_at (codes "contentChanges") params)

abbrev pub opening : Data → Option (List ℕ) → Option (List ℕ) → Tidings
opening params (Some document) (Some text) = opened document (version_of (get (codes "textDocument") params)) text
opening params (Some document) None = unknown
opening params None text = unknown

abbrev pub changing : Data → Option (List ℕ) → Option (List Edit) → Tidings
changing params (Some document) (Some edits) = changed document (version_of (get (codes "textDocument") params)) edits
changing params (Some document) None = unknown
changing params None edits = unknown

abbrev pub opening_of : Data → Tidings
opening_of params = opening params (document_of params) (option_and_then (text_at (codes "text")) (get (codes "textDocument") params))

abbrev pub changing_of : Data → Tidings
changing_of params = changing params (document_of params) (changes_of params)

-- what is told of a document, where its name is
abbrev pub tells : (List ℕ → Tidings) → Option (List ℕ) → Tidings
tells f None = unknown
tells f (Some document) = f document

abbrev pub notice_of : Told → Data → Tidings
notice_of told.Initialized params = initialized
notice_of told.Open params = opening_of params
notice_of told.Change params = changing_of params
notice_of told.Save params = tells saved (document_of params)
notice_of told.Close params = tells closed (document_of params)
notice_of told.Exit params = exit
notice_of told.Cancel params = cancelled
notice_of told.Unknown params = unknown

-- parameters that aren't there are as null
abbrev pub params_of : Data → Data
params_of d = unwrap_or (get (codes "params") d) null

abbrev pub requested : List ℕ → Data → Option Id → Heard
requested method params None = ill None
requested method params (Some id) = request id (call_of (asked_by method) params)

-- what has a method is a notification without an id, and a request with one
abbrev pub called : List ℕ → Data → Option Data → Heard
called method params None = tidings (notice_of (told_by method) params)
called method params (Some d) = requested method params (id_of d)

-- what has no method, and a result or an error, is a response
abbrev pub uncalled : Data → Heard
uncalled d = if is_some (get (codes "result") d) || is_some (get (codes "error") d) then reply
    else ill (option_and_then id_of (get (codes "id") d))

abbrev pub message : Option (List ℕ) → Data → Heard
message None d = uncalled d
message (Some method) d = called method (params_of d) (get (codes "id") d)

abbrev pub heard : Option Data → Heard
heard None = malformed
heard (Some d) = message (text_at (codes "method") d) d
