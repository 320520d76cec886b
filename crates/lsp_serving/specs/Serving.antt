-- A session over frames.
use Rattle.std.specs.Prelude.{◌≡◌, ℕ, [], List}
use Rattle.lsp_text.specs.declared.encoding.Encoding.TheVariants.{Utf16}
use Rattle.lsp_messages.specs.declared.incoming.Incoming.{Incoming}
use Rattle.lsp_messages.specs.declared.outgoing.Outgoing.{Outgoing}
use Rattle.lsp_core.specs.declared.phase.Phase.TheVariants.{Fresh}
use Rattle.lsp_core.specs.Standing.{AreNone}
use Rattle.lsp_server.specs.declared.session.Session.{Session}
use Rattle.lsp_server.specs.Turns.{Folders, Converses}
use Rattle.lsp_serving.specs.Hearing.{AreHeard}

-- how many bytes a body has at most
abbrev pub body_limit : ℕ
body_limit = 268435456

-- no message has come, and nothing was told
pub record IsFresh (session : Session) : Type 0 where
  pub documents : AreNone session.server.documents
  pub encoding : session.server.encoding ≡ Utf16
  pub phase : session.server.phase ≡ Fresh
  pub shown : session.shown.items ≡ []

-- the messages of these bodies come to what is told, one after the other
pub record Serves (folders : Folders) (old : Session) (bodies : List (List ℕ)) (told : List Outgoing) (new : Session) : Type 0 where
  pub messages : List Incoming
  pub heard : AreHeard bodies messages
  pub converses : Converses folders old messages told new
