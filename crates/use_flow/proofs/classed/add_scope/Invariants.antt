use Rattle.std.proofs.Common.{◌≡◌, ◌++◌, drop}
use Rattle.jv_core.specs.View.{method_of}
use Rattle.use_flow.specs.inner.Listing.{listed_from, slot_entry, scope_entries}
use Rattle.use_flow.proofs.classed.add_scope.Given as goal

abbrev pub invariant-loop-place : goal.invariant-loop-place
invariant-loop-place l =
    l.entries.items ++ listed_from (slot_entry (method_of l.method) l.context l.loop_number) l.place (drop l.place l.scope)
    ≡ l.initial.entries.items ++ scope_entries (method_of l.method) l.context l.loop_number l.scope
