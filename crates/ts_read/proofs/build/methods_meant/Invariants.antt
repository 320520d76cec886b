use Rattle.std.proofs.Common.{◌≡◌, map, take}
use Rattle.std.specs.List.{flat_map}
use Rattle.ts_tree.specs.View.{method_of}
use Rattle.ts_read.specs.inner.Building.{entry_made}
use Rattle.ts_read.proofs.build.methods_meant.Given as goal

abbrev pub invariant-loop-item : goal.invariant-loop-item
invariant-loop-item l = map method_of l.made.items ≡ flat_map (entry_made l.names) (take l.item-index l.entries)
