-- The phases of a server: `initialize` begins it, `shutdown` stops it, and `exit` ends it, as often as each comes.
use Rattle.std.specs.Prelude.{true, false}
use Rattle.lsp_messages.specs.declared.incoming.Call.{Call}
use Rattle.lsp_messages.specs.declared.incoming.Call.TheVariants.{Initialize, Shutdown}
use Rattle.lsp_messages.specs.declared.incoming.Notice.{Notice}
use Rattle.lsp_messages.specs.declared.incoming.Notice.TheVariants.{Exit}
use Rattle.lsp_messages.specs.declared.incoming.Incoming.{Incoming}
use Rattle.lsp_messages.specs.declared.incoming.Incoming.TheVariants.{Request, Told}
use Rattle.lsp_core.specs.declared.phase.Phase.{Phase}
use Rattle.lsp_core.specs.declared.phase.Phase.TheVariants.{Fresh, Running, Down, Gone}

-- behind a request
abbrev pub call_phase : Phase → Call → Phase
call_phase Fresh (Initialize utf8) = Running
call_phase Running Shutdown = Down
call_phase phase call = phase

-- at an end, which is clean behind `shutdown`
abbrev pub end_phase : Phase → Phase
end_phase Fresh = Gone false
end_phase Running = Gone false
end_phase Down = Gone true
end_phase (Gone clean) = Gone clean

-- behind a notification
abbrev pub notice_phase : Phase → Notice → Phase
notice_phase phase Exit = end_phase phase
notice_phase phase notice = phase

-- behind a message
abbrev pub next_phase : Phase → Incoming → Phase
next_phase phase (Request id call) = call_phase phase call
next_phase phase (Told notice) = notice_phase phase notice
next_phase phase message = phase
