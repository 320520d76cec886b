use Rattle.std.proofs.Common.{◌≡◌, ◌++◌, drop, map}
use Rattle.jv_core.specs.View.{loop_of, method_of}
use Rattle.use_flow.specs.inner.Listing.{listed_from}
use Rattle.use_flow.specs.inner.Reading.{loop_entry, loop_entries}
use Rattle.use_flow.proofs.read.add_loops.Given as goal

abbrev pub invariant-loop-place : goal.invariant-loop-place
invariant-loop-place l =
    l.entries.items ++ listed_from (loop_entry l.core l.context (method_of l.method)) l.place (map loop_of (drop l.place l.loops))
    ≡ l.initial.entries.items ++ loop_entries l.core l.context (method_of l.method) (map loop_of l.loops)
