-- Which documents stand after a message.
use Rattle.std.specs.Prelude.{◌≡◌, ℕ, ℤ, List, Some, None, MatchOption}
use Rattle.lsp_text.specs.declared.encoding.Encoding.{Encoding}
use Rattle.lsp_text.specs.declared.changes.Change.{Change}
use Rattle.lsp_text.specs.declared.documents.Documents.{Documents}
use Rattle.lsp_text.specs.Documents.{document_at, Puts, Changes}
use Rattle.lsp_messages.specs.declared.incoming.Notice.{Notice}
use Rattle.lsp_messages.specs.declared.incoming.Notice.TheVariants as notices
use Rattle.lsp_messages.specs.declared.incoming.Incoming.{Incoming}
use Rattle.lsp_messages.specs.declared.incoming.Incoming.TheVariants as messages
use Rattle.lsp_core.specs.declared.phase.Phase.{Phase}
use Rattle.lsp_core.specs.declared.phase.Phase.TheVariants.{Running}

-- nothing stands at any name
abbrev pub AreNone : Documents → Type 0
AreNone documents = (name : List ℕ) → document_at documents name ≡ None

-- at each name stands what stood there before
abbrev pub AreSame : Documents → Documents → Type 0
AreSame old new = (name : List ℕ) → document_at new name ≡ document_at old name

-- changes are made in a document that is open; where it isn't, nothing changes
abbrev pub IsChange : Encoding → Documents → Documents → List ℕ → ℤ → List Change → Type 0
IsChange encoding old new name version changes =
    MatchOption (document_at old name) (AreSame old new) (λ before. Changes encoding old new name version changes)

-- behind a notification that comes while the server runs
abbrev pub AfterNotice : Encoding → Notice → Documents → Documents → Type 0
AfterNotice encoding (notices.Open document version text) old new = Puts old new document (Some (record { version = version; text = text }))
AfterNotice encoding (notices.Change document version changes) old new = IsChange encoding old new document version changes.items
AfterNotice encoding (notices.Close document) old new = Puts old new document None
AfterNotice encoding notice old new = AreSame old new

-- behind one that comes in this phase
abbrev pub AfterNoticeIn : Phase → Encoding → Notice → Documents → Documents → Type 0
AfterNoticeIn Running encoding notice old new = AfterNotice encoding notice old new
AfterNoticeIn phase encoding notice old new = AreSame old new

-- behind a message: only notifications change what stands
abbrev pub AfterMessage : Phase → Encoding → Incoming → Documents → Documents → Type 0
AfterMessage phase encoding (messages.Told notice) old new = AfterNoticeIn phase encoding notice old new
AfterMessage phase encoding message old new = AreSame old new
