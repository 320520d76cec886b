-- What the server's messages are in JSON.
use Rattle.std.specs.Prelude.{ℕ, ℤ, negsuc, List, [], ◌∷◌, Option, Some, None, codes}
use Rattle.lsp_messages.specs.declared.id.Id.{Id}
use Rattle.lsp_messages.specs.declared.id.Id.TheVariants.{Number, Name}
use Rattle.lsp_messages.specs.declared.outgoing.Code.{Code}
use Rattle.lsp_messages.specs.declared.outgoing.Code.TheVariants.{ParseError, InvalidRequest, MethodNotFound, InvalidParams, ServerNotInitialized}
use Rattle.lsp_messages.specs.declared.outgoing.Diagnostic.{Diagnostic}
use Rattle.lsp_messages.specs.declared.outgoing.Outgoing.{Outgoing}
use Rattle.lsp_messages.specs.declared.outgoing.Outgoing.TheVariants.{Answered, Refused, Diagnosed}
use Rattle.serde_json.specs.Data.{Data, null, string}
use Rattle.lsp_says.specs.Objects.{object_of, list_of, integer}
use Rattle.lsp_says.specs.Parts.{diagnostic_json}
use Rattle.lsp_says.specs.Answers.{answer_json}

-- a message of JSON-RPC
abbrev pub message_of : List (List ℕ × Data) → Data
message_of ms = object_of ((codes "jsonrpc", string (codes "2.0")) ∷ ms)

abbrev pub id_json : Id → Data
id_json (Number number) = integer number
id_json (Name name) = string name

-- what is refused may have no id, which is null then
abbrev pub refused_id : Option Id → Data
refused_id None = null
refused_id (Some id) = id_json id

-- the protocol's numbers: `negsuc n` is -1 - n
abbrev pub code_number : Code → ℤ
code_number ParseError = negsuc 32699
code_number InvalidRequest = negsuc 32599
code_number MethodNotFound = negsuc 32600
code_number InvalidParams = negsuc 32601
code_number ServerNotInitialized = negsuc 32001

abbrev pub code_message : Code → List ℕ
code_message ParseError = codes "this is no JSON"
code_message InvalidRequest = codes "this is no message of the protocol, or it may not come now"
code_message MethodNotFound = codes "this method isn't known"
code_message InvalidParams = codes "these parameters aren't the protocol's"
code_message ServerNotInitialized = codes "initialize has to come first"

abbrev pub error_json : Code → Data
error_json code = object_of ((codes "code", integer (code_number code)) ∷ (codes "message", string (code_message code)) ∷ [])

-- the version of a document that isn't open isn't told
abbrev pub version_in : Option ℤ → List (List ℕ × Data)
version_in None = []
version_in (Some version) = (codes "version", integer version) ∷ []

abbrev pub published : List ℕ → Option ℤ → List Diagnostic → Data
published document version diagnostics =
    object_of (
    (codes "uri", string document) ∷
    (codes "diagnostics", list_of diagnostic_json diagnostics) ∷
    version_in version)

-- a response has its request's id, and a result or an error
abbrev pub result_of : Data → Data → Data
result_of id result = message_of ((codes "id", id) ∷ (codes "result", result) ∷ [])

abbrev pub error_of : Data → Data → Data
error_of id error = message_of ((codes "id", id) ∷ (codes "error", error) ∷ [])

-- the notification of a document's diagnostics
abbrev pub notice_of : Data → Data
notice_of params = message_of ((codes "method", string (codes "textDocument/publishDiagnostics")) ∷ (codes "params", params) ∷ [])

abbrev pub said : Outgoing → Data
said (Answered id answer) = result_of (id_json id) (answer_json answer)
said (Refused id code) = error_of (refused_id id) (error_json code)
said (Diagnosed document version diagnostics) = notice_of (published document version diagnostics.items)
