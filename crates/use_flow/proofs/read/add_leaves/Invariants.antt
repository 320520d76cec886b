use Rattle.std.proofs.Common.{◌≡◌, ◌++◌, drop}
use Rattle.use_flow.specs.inner.Listing.{listed_from}
use Rattle.use_flow.specs.inner.Reading.{leave_entry, leave_entries}
use Rattle.use_flow.proofs.read.add_leaves.Given as goal

abbrev pub invariant-loop-method : goal.invariant-loop-method
invariant-loop-method l =
    l.entries.items ++ listed_from (leave_entry l.core) l.method-index (drop l.method-index l.methods)
    ≡ l.initial.entries.items ++ leave_entries l.core l.methods
