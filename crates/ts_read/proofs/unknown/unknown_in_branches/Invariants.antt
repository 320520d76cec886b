use Rattle.std.proofs.Common.{◌≡◌, drop, map}
use Rattle.ts_read.specs.inner.Finding.{first_some, unknown_to}
use Rattle.ts_read.proofs.unknown.unknown_in_branches.Given as goal

abbrev pub invariant-loop-item : goal.invariant-loop-item
invariant-loop-item l = first_some (map (unknown_to l.names) (drop l.item-index l.branches)) ≡ first_some
    (map (unknown_to l.names) l.branches)
