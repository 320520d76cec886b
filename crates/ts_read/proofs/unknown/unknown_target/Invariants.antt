use Rattle.std.proofs.Common.{◌≡◌, drop, map}
use Rattle.ts_read.specs.inner.Finding.{first_some, unknown_state}
use Rattle.ts_read.proofs.unknown.unknown_target.Given as goal

abbrev pub invariant-loop-item : goal.invariant-loop-item
invariant-loop-item l = first_some (map (unknown_state l.names) (drop l.item-index l.states)) ≡ first_some
    (map (unknown_state l.names) l.states)
