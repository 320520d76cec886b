use Rattle.std.proofs.Common.{◌≡◌, ◌++◌, drop}
use Rattle.use_flow.specs.inner.Listing.{listed_from, entries_at, by_contexts}
use Rattle.use_flow.proofs.classed.add_contexts.Given as goal

abbrev pub invariant-loop-place : goal.invariant-loop-place
invariant-loop-place l =
    l.entries.items ++ listed_from (entries_at l.core) l.place (drop l.place l.contexts)
    ≡ l.initial.entries.items ++ by_contexts l.core l.contexts
