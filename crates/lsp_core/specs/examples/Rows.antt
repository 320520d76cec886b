-- Worked rows of phases and steps.
use Rattle.std.specs.Prelude.{◌≡◌, true, false, [], ◌∷◌, Some, None, codes}
use Rattle.std.specs.List.{flat_map}
use Rattle.lsp_text.specs.declared.encoding.Encoding.TheVariants.{Utf8, Utf16}
use Rattle.lsp_messages.specs.declared.id.Id.{Id}
use Rattle.lsp_messages.specs.declared.id.Id.TheVariants.{Name}
use Rattle.lsp_messages.specs.declared.incoming.Call.TheVariants as calls
use Rattle.lsp_messages.specs.declared.incoming.Question.{Question}
use Rattle.lsp_messages.specs.declared.incoming.Question.TheVariants.{Symbols}
use Rattle.lsp_messages.specs.declared.incoming.Notice.TheVariants as notices
use Rattle.lsp_messages.specs.declared.incoming.Incoming.{Incoming}
use Rattle.lsp_messages.specs.declared.incoming.Incoming.TheVariants as messages
use Rattle.lsp_messages.specs.declared.outgoing.Answer.TheVariants as answers
use Rattle.lsp_messages.specs.declared.outgoing.Code.TheVariants.{ParseError, InvalidRequest, MethodNotFound, InvalidParams, ServerNotInitialized}
use Rattle.lsp_messages.specs.declared.outgoing.Outgoing.TheVariants.{Answered, Refused}
use Rattle.lsp_core.specs.declared.phase.Phase.TheVariants.{Fresh, Running, Down, Gone}
use Rattle.lsp_core.specs.declared.step.Step.TheVariants.{Quiet, Say, Judge, Ask}
use Rattle.lsp_core.specs.Phases.{next_phase}
use Rattle.lsp_core.specs.Steps.{step_of, next_encoding, refused}
use Rattle.lsp_core.specs.Runs.{asked_id, before_exit}

abbrev pub first : Id
first = Name (codes "a")

abbrev pub symbols : Question
symbols = Symbols (codes "file:///p/C.scr")

abbrev pub begins : Incoming
begins = messages.Request first (calls.Initialize true)

abbrev pub asks : Incoming
asks = messages.Request first (calls.Ask symbols)

abbrev pub stops : Incoming
stops = messages.Request first calls.Shutdown

abbrev pub ends : Incoming
ends = messages.Told notices.Exit

abbrev pub saves : Incoming
saves = messages.Told (notices.Save (codes "file:///p/C.scr"))

pub record Rows : Type 0 where
  -- before `initialize`
  pub early : step_of Fresh asks ≡ refused first ServerNotInitialized
  pub early_save : step_of Fresh saves ≡ Quiet
  pub unread : step_of Fresh messages.Malformed ≡ Say (Refused None ParseError)
  pub early_end : next_phase Fresh ends ≡ Gone false
  -- `initialize`
  pub begun : step_of Fresh begins ≡ Say (Answered first (answers.Capabilities Utf8))
  pub without : step_of Fresh (messages.Request first (calls.Initialize false)) ≡ Say (Answered first (answers.Capabilities Utf16))
  pub counts : next_encoding Fresh Utf16 begins ≡ Utf8
  pub runs : next_phase Fresh begins ≡ Running
  -- while it runs
  pub twice : step_of Running begins ≡ refused first InvalidRequest
  pub stays : next_phase Running begins ≡ Running
  pub asked : step_of Running asks ≡ Ask first symbols
  pub saved : step_of Running saves ≡ Judge (codes "file:///p/C.scr")
  pub unknown : step_of Running (messages.Request first calls.Unknown) ≡ refused first MethodNotFound
  pub bad : step_of Running (messages.Request first calls.BadParameters) ≡ refused first InvalidParams
  pub cancelled : step_of Running (messages.Told notices.Cancel) ≡ Quiet
  pub reply : step_of Running messages.Reply ≡ Quiet
  pub ill : step_of Running (messages.Ill (Some first)) ≡ refused first InvalidRequest
  pub killed : next_phase Running ends ≡ Gone false
  -- `shutdown`, and behind it
  pub stopped : step_of Running stops ≡ Say (Answered first answers.Nothing)
  pub down : next_phase Running stops ≡ Down
  pub late : step_of Down asks ≡ refused first InvalidRequest
  pub late_save : step_of Down saves ≡ Quiet
  pub clean : next_phase Down ends ≡ Gone true
  -- behind `exit`
  pub silent : step_of (Gone true) asks ≡ Quiet
  pub still : next_phase (Gone true) begins ≡ Gone true
  -- a run: what is asked behind `exit` wants no response
  pub wanted : flat_map asked_id (before_exit (begins ∷ saves ∷ messages.Malformed ∷ stops ∷ ends ∷ asks ∷ [])) ≡ first ∷ first ∷ []
