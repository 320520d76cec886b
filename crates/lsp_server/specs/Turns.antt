-- What messages of a client come to, one after the other.
use Rattle.std.specs.Prelude.{◌≡◌, ℕ, false, List, [], ◌∷◌, ◌++◌, Option, IfSome}
use Rattle.lsp_messages.specs.declared.incoming.Incoming.{Incoming}
use Rattle.lsp_messages.specs.declared.outgoing.Outgoing.{Outgoing}
use Rattle.lsp_core.specs.declared.step.Step.{Step}
use Rattle.lsp_core.specs.declared.step.Step.TheVariants.{Quiet, Say, Judge, Ask}
use Rattle.lsp_core.specs.Runs.{Takes, is_gone}
use Rattle.lsp_folder.specs.declared.program.File.{File}
use Rattle.lsp_server.specs.declared.session.Session.{Session}
use Rattle.lsp_server.specs.Judging.{AreTold}
use Rattle.lsp_server.specs.Showing.{showing}
use Rattle.lsp_server.specs.Answering.{asked_about, IsAnswered}

-- the files of the folder of a document, where they are known
abbrev pub Folders : Type 0
Folders = List ℕ → Option (List File)

-- these are the files, where they are known
abbrev pub AreFiles : Folders → List ℕ → List File → Type 0
AreFiles folders document files = IfSome (folders document) (λ known. files ≡ known)

-- behind what is told of a document's program the server is as before
pub record IsBehind (old : Session) (document : List ℕ) (told : List Outgoing) (new : Session) : Type 0 where
  pub server : new.server ≡ old.server
  pub shown : new.shown.items ≡ showing document old.shown.items told

-- what a step tells
pub data Comes (folders : Folders) : Session → Step → List Outgoing → Session → Type 0 where
  quiet : {session : Session} → Comes folders session Quiet [] session
  say : {session : Session} {message : Outgoing} → Comes folders session (Say message) (message ∷ []) session
  judge : {old new : Session} {document : List ℕ} {files : List File} {told : List Outgoing} → AreFiles folders document files →
      AreTold old.server old.shown.items document files told → IsBehind old document told new → Comes folders old (Judge document) told new
  ask : {session : Session} {id : _} {question : _} {files : List File} {message : Outgoing} →
      AreFiles folders (asked_about question) files → IsAnswered session.server id question files message →
      Comes folders session (Ask id question) (message ∷ []) session

-- the server takes a message, and nothing else changes
pub record Hears (old : Session) (message : Incoming) (step : Step) (new : Session) : Type 0 where
  pub takes : Takes old.server message step new.server
  pub shown : new.shown ≡ old.shown

-- the message comes to what is told
pub record Turns (folders : Folders) (old : Session) (message : Incoming) (told : List Outgoing) (new : Session) : Type 0 where
  pub between : Session
  pub step : Step
  pub hears : Hears old message step between
  pub comes : Comes folders between step told new

-- these messages come to what is told, one after the other, and none is heard behind `exit`
pub data Converses (folders : Folders) : Session → List Incoming → List Outgoing → Session → Type 0 where
  none : {session : Session} → Converses folders session [] [] session
  more : {old between new : Session} {message : Incoming} {messages : List Incoming} {now later : List Outgoing} →
      is_gone old.server.phase ≡ false → Turns folders old message now between → Converses folders between messages later new →
      Converses folders old (message ∷ messages) (now ++ later) new
