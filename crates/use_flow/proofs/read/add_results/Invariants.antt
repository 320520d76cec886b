use Rattle.std.proofs.Common.{◌≡◌, ◌++◌, drop}
use Rattle.use_flow.specs.Runs.{starts_of}
use Rattle.use_flow.specs.inner.Listing.{listed_from}
use Rattle.use_flow.specs.inner.Reading.{result_entry, result_entries}
use Rattle.use_flow.proofs.read.add_results.Given as goal

abbrev pub invariant-loop-method : goal.invariant-loop-method
invariant-loop-method l =
    l.entries.items ++ listed_from (result_entry l.core (starts_of l.runs)) l.method-index (drop l.method-index l.methods)
    ≡ l.initial.entries.items ++ result_entries l.core (starts_of l.runs) l.methods
