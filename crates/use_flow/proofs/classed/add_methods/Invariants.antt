use Rattle.std.proofs.Common.{◌≡◌, ◌++◌, drop, map}
use Rattle.jv_core.specs.View.{method_of}
use Rattle.use_flow.specs.inner.Listing.{listed_from, method_entries, by_methods}
use Rattle.use_flow.proofs.classed.add_methods.Given as goal

abbrev pub invariant-loop-place : goal.invariant-loop-place
invariant-loop-place l =
    l.entries.items ++ listed_from (method_entries l.core) l.place (map method_of (drop l.place l.methods))
    ≡ l.initial.entries.items ++ by_methods l.core
