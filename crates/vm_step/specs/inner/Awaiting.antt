-- For whose message an instruction waits.
use Rattle.std.specs.Prelude.{ℕ, slice_get, Option, Some, None}
use Rattle.mg_text.specs.Call.{Name}
use Rattle.mg_text.specs.declared.event.Sent.{Sent}
use Rattle.vm_model.specs.declared.linked.Built.{Built as BuiltIn}
use Rattle.vm_model.specs.Messages.{Messages, on_way, role_named}
use Rattle.vm_model.specs.Actions.{Action, Use}
use Rattle.vm_model.specs.Step.{other_role}

-- a role that has sent nothing that wasn't taken
abbrev pub awaited_head : ℕ → Option Sent → Option ℕ
awaited_head from None = Some from
awaited_head from (Some message) = None

abbrev pub awaited_role : Messages → ℕ → Option ℕ → Option ℕ
awaited_role q me None = None
awaited_role q me (Some from) = awaited_head from (slice_get (on_way q from me) 0)

-- the role of this name
abbrev pub awaited : Messages → ℕ → Name → Option ℕ
awaited q me peer = awaited_role q me (other_role me (role_named q peer))

abbrev pub awaited_in : Messages → ℕ → Option Name → Option ℕ
awaited_in q me None = None
awaited_in q me (Some peer) = awaited q me peer

-- the same where there is a label too
abbrev pub awaited_with : Messages → ℕ → Option Name → Option Name → Option ℕ
awaited_with q me (Some peer) (Some label) = awaited q me peer
awaited_with q me _ _ = None

-- the member that is used
abbrev pub used_in : Action → Option BuiltIn
used_in (Use b) = Some b
used_in _ = None
