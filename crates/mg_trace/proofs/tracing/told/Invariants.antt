use Rattle.std.proofs.Common.{◌≡◌, [], take}
use Rattle.std.specs.Prelude.{string_bytes}
use Rattle.mg_trace.specs.Trace.{lines_from}
use Rattle.mg_trace.specs.inner.Kept.{AreKnown}
use Rattle.mg_trace.specs.inner.Tabled.{telling_of}
use Rattle.mg_trace.proofs.tracing.told.Given as goal

abbrev pub invariant-loop-place : goal.invariant-loop-place
invariant-loop-place l = record {
  known : AreKnown l.roles.items (take l.place l.events.items);
  lines : string_bytes l.lines ≡ lines_from (telling_of l.answers) l.names [] (take l.place l.events.items);
}
