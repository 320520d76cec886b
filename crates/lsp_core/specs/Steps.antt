-- What each message comes to in each phase: which response, and to what.
use Rattle.std.specs.Prelude.{Bool, Option, Some, None, if◌then◌else◌}
use Rattle.lsp_text.specs.declared.encoding.Encoding.{Encoding}
use Rattle.lsp_text.specs.declared.encoding.Encoding.TheVariants.{Utf8, Utf16}
use Rattle.lsp_messages.specs.declared.id.Id.{Id}
use Rattle.lsp_messages.specs.declared.incoming.Call.{Call}
use Rattle.lsp_messages.specs.declared.incoming.Call.TheVariants as calls
use Rattle.lsp_messages.specs.declared.incoming.Notice.{Notice}
use Rattle.lsp_messages.specs.declared.incoming.Notice.TheVariants as notices
use Rattle.lsp_messages.specs.declared.incoming.Incoming.{Incoming}
use Rattle.lsp_messages.specs.declared.incoming.Incoming.TheVariants as messages
use Rattle.lsp_messages.specs.declared.outgoing.Answer.TheVariants as answers
use Rattle.lsp_messages.specs.declared.outgoing.Code.{Code}
use Rattle.lsp_messages.specs.declared.outgoing.Code.TheVariants.{ParseError, InvalidRequest, MethodNotFound, InvalidParams, ServerNotInitialized}
use Rattle.lsp_messages.specs.declared.outgoing.Outgoing.TheVariants.{Answered, Refused}
use Rattle.lsp_core.specs.declared.phase.Phase.{Phase}
use Rattle.lsp_core.specs.declared.phase.Phase.TheVariants.{Fresh, Running, Down, Gone}
use Rattle.lsp_core.specs.declared.step.Step.{Step}
use Rattle.lsp_core.specs.declared.step.Step.TheVariants.{Quiet, Say, Judge, Ask}

-- lines are counted in bytes of UTF-8 where the client can
abbrev pub encoding_of : Bool → Encoding
encoding_of utf8 = if utf8 then Utf8 else Utf16

abbrev pub call_encoding : Phase → Encoding → Call → Encoding
call_encoding Fresh encoding (calls.Initialize utf8) = encoding_of utf8
call_encoding phase encoding call = encoding

-- how lines are counted behind a message
abbrev pub next_encoding : Phase → Encoding → Incoming → Encoding
next_encoding phase encoding (messages.Request id call) = call_encoding phase encoding call
next_encoding phase encoding message = encoding

-- Requests.

-- the request isn't answered, for this reason
abbrev pub refused : Id → Code → Step
refused id code = Say (Refused (Some id) code)

-- before `initialize` no other is answered
abbrev pub fresh_step : Id → Call → Step
fresh_step id (calls.Initialize utf8) = Say (Answered id (answers.Capabilities (encoding_of utf8)))
fresh_step id call = refused id ServerNotInitialized

abbrev pub running_step : Id → Call → Step
running_step id (calls.Initialize utf8) = refused id InvalidRequest
running_step id calls.Shutdown = Say (Answered id answers.Nothing)
running_step id (calls.Ask question) = Ask id question
running_step id calls.Unknown = refused id MethodNotFound
running_step id calls.BadParameters = refused id InvalidParams

-- behind `shutdown` none is answered, and behind `exit` nothing is told
abbrev pub call_step : Phase → Id → Call → Step
call_step Fresh id call = fresh_step id call
call_step Running id call = running_step id call
call_step Down id call = refused id InvalidRequest
call_step (Gone clean) id call = Quiet

-- Notifications. Those of a document have its program judged anew.
abbrev pub running_notice_step : Notice → Step
running_notice_step (notices.Open document version text) = Judge document
running_notice_step (notices.Change document version changes) = Judge document
running_notice_step (notices.Save document) = Judge document
running_notice_step (notices.Close document) = Judge document
running_notice_step notice = Quiet

abbrev pub notice_step : Phase → Notice → Step
notice_step Running notice = running_notice_step notice
notice_step phase notice = Quiet

-- What is no message.
abbrev pub ill_step : Phase → Option Id → Code → Step
ill_step (Gone clean) id code = Quiet
ill_step phase id code = Say (Refused id code)

-- what a message comes to
abbrev pub step_of : Phase → Incoming → Step
step_of phase (messages.Request id call) = call_step phase id call
step_of phase (messages.Told notice) = notice_step phase notice
step_of phase messages.Reply = Quiet
step_of phase messages.Malformed = ill_step phase None ParseError
step_of phase (messages.Ill id) = ill_step phase id InvalidRequest
