use Rattle.std.proofs.Common.{◌≡◌, ◌++◌, drop, map}
use Rattle.ts_tree.specs.View.{state_of}
use Rattle.jv_core.specs.View.{field_of}
use Rattle.use_flow.specs.inner.Listing.{listed_from, state_entry, state_entries}
use Rattle.use_flow.proofs.classed.add_states.Given as goal

abbrev pub invariant-loop-place : goal.invariant-loop-place
invariant-loop-place l =
    l.entries.items ++ listed_from (state_entry l.class (map field_of l.fields)) l.place (map state_of (drop l.place l.states))
    ≡ l.initial.entries.items ++ state_entries l.class (map field_of l.fields) (map state_of l.states)
