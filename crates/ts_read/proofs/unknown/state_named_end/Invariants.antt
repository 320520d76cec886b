use Rattle.std.proofs.Common.{◌≡◌, drop, map}
use Rattle.ts_read.specs.inner.Finding.{first_some, named_end}
use Rattle.ts_read.proofs.unknown.state_named_end.Given as goal

abbrev pub invariant-loop-item : goal.invariant-loop-item
invariant-loop-item l = first_some (map named_end (drop l.item-index l.states)) ≡ first_some (map named_end l.states)
