use Rattle.std.proofs.Common.{◌≡◌, drop, map}
use Rattle.ts_read.specs.inner.Finding.{first_some, at_method, unknown_method}
use Rattle.ts_read.proofs.unknown.unknown_in_entries.Given as goal

abbrev pub invariant-loop-item : goal.invariant-loop-item
invariant-loop-item l = first_some (map (at_method (unknown_method l.names)) (drop l.item-index l.entries)) ≡ first_some
    (map (at_method (unknown_method l.names)) l.entries)
