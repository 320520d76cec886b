-- Runs of messages, one after the other, and what each came to.
use Rattle.std.specs.Prelude.{◌≡◌, Bool, true, false, List, [], ◌∷◌, All, Option, Some, None, if◌then◌else◌}
use Rattle.std.specs.List.{flat_map}
use Rattle.lsp_text.specs.declared.encoding.Encoding.{Encoding}
use Rattle.lsp_text.specs.declared.documents.Documents.{Documents}
use Rattle.lsp_messages.specs.declared.id.Id.{Id}
use Rattle.lsp_messages.specs.declared.incoming.Call.TheVariants as calls
use Rattle.lsp_messages.specs.declared.incoming.Notice.{Notice}
use Rattle.lsp_messages.specs.declared.incoming.Notice.TheVariants as notices
use Rattle.lsp_messages.specs.declared.incoming.Incoming.{Incoming}
use Rattle.lsp_messages.specs.declared.incoming.Incoming.TheVariants as messages
use Rattle.lsp_messages.specs.declared.outgoing.Outgoing.{Outgoing}
use Rattle.lsp_messages.specs.declared.outgoing.Outgoing.TheVariants.{Answered, Refused, Diagnosed}
use Rattle.lsp_core.specs.declared.phase.Phase.{Phase}
use Rattle.lsp_core.specs.declared.phase.Phase.TheVariants.{Running, Gone}
use Rattle.lsp_core.specs.declared.step.Step.{Step}
use Rattle.lsp_core.specs.declared.step.Step.TheVariants.{Quiet, Say, Judge, Ask}
use Rattle.lsp_core.specs.declared.server.Server.{Server}
use Rattle.lsp_core.specs.Phases.{next_phase}
use Rattle.lsp_core.specs.Steps.{step_of, next_encoding}
use Rattle.lsp_core.specs.Standing.{AreSame, AfterNotice, AfterMessage}

-- a server takes a message, which comes to this
pub record Takes (old : Server) (message : Incoming) (step : Step) (new : Server) : Type 0 where
  pub comes : step ≡ step_of old.phase message
  pub phase : new.phase ≡ next_phase old.phase message
  pub encoding : new.encoding ≡ next_encoding old.phase old.encoding message
  pub documents : AfterMessage old.phase old.encoding message old.documents new.documents

-- it takes these messages, and each comes to one of these steps, in their order
pub data Runs : Server → List Incoming → List Step → Server → Type 0 where
  none : {server : Server} → Runs server [] [] server
  more : {old between new : Server} {message : Incoming} {step : Step} {messages : List Incoming} {steps : List Step} →
      Takes old message step between → Runs between messages steps new → Runs old (message ∷ messages) (step ∷ steps) new

-- One response to each request.

abbrev pub ids_of : Option Id → List Id
ids_of None = []
ids_of (Some id) = id ∷ []

-- the id to which a message wants a response
abbrev pub asked_id : Incoming → List Id
asked_id (messages.Request id call) = id ∷ []
asked_id (messages.Ill id) = ids_of id
asked_id message = []

-- the id to which something told is the response
abbrev pub told_id : Outgoing → List Id
told_id (Answered id answer) = id ∷ []
told_id (Refused id code) = ids_of id
told_id (Diagnosed document version diagnostics) = []

-- the id to which a step responds, or has responded by what is answered to a question
abbrev pub answered_id : Step → List Id
answered_id Quiet = []
answered_id (Say outgoing) = told_id outgoing
answered_id (Judge document) = []
answered_id (Ask id question) = id ∷ []

abbrev pub is_exit : Incoming → Bool
is_exit (messages.Told notices.Exit) = true
is_exit message = false

-- the messages before the first `exit`
abbrev pub before_exit : List Incoming → List Incoming
before_exit [] = []
before_exit (message ∷ messages) = if is_exit message then [] else message ∷ before_exit messages

abbrev pub is_gone : Phase → Bool
is_gone (Gone clean) = true
is_gone phase = false

-- Each request before `exit` is responded to once, by its id, and in the order of the requests; and nothing else is.
abbrev pub OneResponseEach : Type 0
OneResponseEach = (old new : Server) (messages : List Incoming) (steps : List Step) → is_gone old.phase ≡ false →
    Runs old messages steps new → flat_map answered_id steps ≡ flat_map asked_id (before_exit messages)

-- Behind `exit` nothing is told, and nothing changes.
pub record IsStill (old : Server) (steps : List Step) (new : Server) : Type 0 where
  pub quiet : All (λ step. step ≡ Quiet) steps
  pub phase : new.phase ≡ old.phase
  pub documents : AreSame old.documents new.documents

abbrev pub NothingAfterExit : Type 0
NothingAfterExit = (old new : Server) (messages : List Incoming) (steps : List Step) → is_gone old.phase ≡ true →
    Runs old messages steps new → IsStill old steps new

-- What stands depends on notifications alone.

-- one after the other, and between them what stands stays
pub data Stands (encoding : Encoding) : List Notice → Documents → Documents → Type 0 where
  none : {documents : Documents} → Stands encoding [] documents documents
  stays : {old between new : Documents} {notices : List Notice} → AreSame old between → Stands encoding notices between new →
      Stands encoding notices old new
  more : {old between new : Documents} {notice : Notice} {notices : List Notice} → AfterNotice encoding notice old between →
      Stands encoding notices between new → Stands encoding (notice ∷ notices) old new

abbrev pub notice_in : Incoming → List Notice
notice_in (messages.Told notice) = notice ∷ []
notice_in message = []

-- the message doesn't stop the server
abbrev pub goes_on : Incoming → Bool
goes_on (messages.Request id calls.Shutdown) = false
goes_on (messages.Told notices.Exit) = false
goes_on message = true

-- While the server runs, what stands is what its notifications make of what stood, whatever else is told or asked.
abbrev pub DocumentsAreOfNotices : Type 0
DocumentsAreOfNotices = (old new : Server) (messages : List Incoming) (steps : List Step) → old.phase ≡ Running →
    All (λ message. goes_on message ≡ true) messages → Runs old messages steps new →
    Stands old.encoding (flat_map notice_in messages) old.documents new.documents
