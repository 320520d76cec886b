use Rattle.std.proofs.Common.{◌≡◌, [], drop, map}
use Rattle.ts_read.specs.inner.Finding.{noted, state_name}
use Rattle.ts_read.proofs.unknown.state_table.Given as goal

abbrev pub invariant-loop-item : goal.invariant-loop-item
invariant-loop-item l = noted l.met (map state_name (drop l.item-index l.states)) ≡ noted [] (map state_name l.states)
