use Rattle.std.proofs.Common.{◌≡◌, ◌++◌, drop, map}
use Rattle.use_flow.specs.inner.Listing.{listed_from, param_entry, param_entries}
use Rattle.use_flow.proofs.classed.add_params.Given as goal

abbrev pub invariant-loop-place : goal.invariant-loop-place
invariant-loop-place l =
    l.entries.items ++ listed_from (param_entry l.context) l.place (map (λ s. s.ty) (drop l.place l.params))
    ≡ l.initial.entries.items ++ param_entries l.context (map (λ s. s.ty) l.params)
