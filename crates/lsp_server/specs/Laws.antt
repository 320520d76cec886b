-- Laws of what a session tells.
use Rattle.std.specs.Prelude.{◌≡◌, ℕ, true, false, List, [], ◌∷◌, if◌then◌else◌}
use Rattle.std.specs.List.{flat_map}
use Rattle.std.specs.Str.{bytes_eq}
use Rattle.lsp_messages.specs.declared.incoming.Incoming.{Incoming}
use Rattle.lsp_messages.specs.declared.outgoing.Diagnostic.{Diagnostic}
use Rattle.lsp_messages.specs.declared.outgoing.Outgoing.{Outgoing}
use Rattle.lsp_messages.specs.declared.outgoing.Outgoing.TheVariants.{Answered, Refused, Diagnosed}
use Rattle.lsp_core.specs.Runs.{asked_id, told_id, before_exit}
use Rattle.lsp_core.specs.declared.server.Server.{Server}
use Rattle.lsp_folder.specs.declared.program.File.{File}
use Rattle.lsp_folder.specs.Names.{is_part}
use Rattle.lsp_server.specs.declared.session.Session.{Session}
use Rattle.lsp_server.specs.Showing.{is_among, showing}
use Rattle.lsp_server.specs.Judging.{AreTold}
use Rattle.lsp_server.specs.Turns.{Folders, Converses}

-- Each request before `exit` gets one response, with its id, in the order of the requests; and nothing else is a response.
abbrev pub OneResponseEach : Type 0
OneResponseEach = (folders : Folders) (old new : Session) (messages : List Incoming) (told : List Outgoing) →
    Converses folders old messages told new → flat_map told_id told ≡ flat_map asked_id (before_exit messages)

-- What a client shows of each document: what it was told last.
abbrev pub Display : Type 0
Display = List ℕ → List Diagnostic

abbrev pub after_message : Display → Outgoing → Display
after_message display (Answered id answer) = display
after_message display (Refused id code) = display
after_message display (Diagnosed document version diagnostics) =
    λ name. if bytes_eq document name then diagnostics.items else display name

abbrev pub after_messages : Display → List Outgoing → Display
after_messages display [] = display
after_messages display (message ∷ messages) = after_messages (after_message display message) messages

-- what shows something is among these
abbrev pub Covers : List (List ℕ) → Display → Type 0
Covers shown display = (name : List ℕ) → is_among shown name ≡ false → display name ≡ []

-- Behind what is told of a document's program, nothing that was told of its folder earlier stays: a name that isn't that of a source shows
-- nothing. Names outside of the folder show what they showed.
pub record AreShown (document : List ℕ) (old : Display) (told : List Outgoing)
    (shown names : List (List ℕ)) : Type 0 where
  pub gone : (name : List ℕ) → is_part document name ≡ true → is_among names name ≡ false → after_messages old told name ≡ []
  pub others : (name : List ℕ) → is_part document name ≡ false → after_messages old told name ≡ old name
  pub covered : Covers shown (after_messages old told)

abbrev pub NothingStays : Type 0
NothingStays = (server : Server) (shown : List (List ℕ)) (document : List ℕ) (files : List File) (told : List Outgoing)
    (display : Display) →
    (are : AreTold server shown document files told) → Covers shown display →
    AreShown document display told (showing document shown told) are.program.names.items
