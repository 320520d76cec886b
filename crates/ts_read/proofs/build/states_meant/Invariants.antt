use Rattle.std.proofs.Common.{◌≡◌, map, take}
use Rattle.ts_tree.specs.View.{state_of}
use Rattle.ts_read.specs.inner.Building.{state_made}
use Rattle.ts_read.proofs.build.states_meant.Given as goal

abbrev pub invariant-loop-item : goal.invariant-loop-item
invariant-loop-item l = map state_of l.made.items ≡ map (state_made l.names) (take l.item-index l.states)
