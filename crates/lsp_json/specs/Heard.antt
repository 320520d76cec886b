-- Messages of a client as they are seen: a change by its range and its text.
use Rattle.std.specs.Prelude.{ℕ, ℤ, List, Option, map, string_bytes}
use Rattle.lsp_text.specs.declared.changes.Range.{Range}
use Rattle.lsp_text.specs.declared.changes.Change.{Change}
use Rattle.lsp_messages.specs.declared.id.Id.{Id}
use Rattle.lsp_messages.specs.declared.incoming.Call.{Call}
use Rattle.lsp_messages.specs.declared.incoming.Notice.{Notice}
use Rattle.lsp_messages.specs.declared.incoming.Notice.TheVariants as notices
use Rattle.lsp_messages.specs.declared.incoming.Incoming.{Incoming}
use Rattle.lsp_messages.specs.declared.incoming.Incoming.TheVariants as messages

-- what stands in the range, or the whole, becomes this text
pub record Edit : Type 0 where
  pub range : Option Range
  pub text : List ℕ

abbrev pub edit : Change → Edit
edit change = record { range = change.range; text = string_bytes change.text }

pub data Tidings : Type 0 where
  initialized : Tidings
  opened : List ℕ → ℤ → List ℕ → Tidings
  changed : List ℕ → ℤ → List Edit → Tidings
  saved : List ℕ → Tidings
  closed : List ℕ → Tidings
  exit : Tidings
  cancelled : Tidings
  unknown : Tidings

pub data Heard : Type 0 where
  request : Id → Call → Heard
  tidings : Tidings → Heard
  reply : Heard
  malformed : Heard
  ill : Option Id → Heard

abbrev pub notice_seen : Notice → Tidings
notice_seen notices.Initialized = initialized
notice_seen (notices.Open document version text) = opened document version text
notice_seen (notices.Change document version changes) = changed document version (map edit changes.items)
notice_seen (notices.Save document) = saved document
notice_seen (notices.Close document) = closed document
notice_seen notices.Exit = exit
notice_seen notices.Cancel = cancelled
notice_seen notices.Unknown = unknown

abbrev pub seen : Incoming → Heard
seen (messages.Request id call) = request id call
seen (messages.Told notice) = tidings (notice_seen notice)
seen messages.Reply = reply
seen messages.Malformed = malformed
seen (messages.Ill id) = ill id
