use Rattle.std.proofs.Common.{◌≡◌, take}
use Rattle.mg_trace.specs.Trace.{printed}
use Rattle.mg_trace.proofs.printing.printed.Given as goal

abbrev pub invariant-loop-place : goal.invariant-loop-place
invariant-loop-place l = l.bytes ≡ printed l.named l.names (take l.place l.events.items)
