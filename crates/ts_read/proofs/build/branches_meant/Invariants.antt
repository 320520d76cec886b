use Rattle.std.proofs.Common.{◌≡◌, map, take}
use Rattle.ts_read.specs.Meaning.{branch_meant}
use Rattle.ts_read.proofs.build.branches_meant.Given as goal

abbrev pub invariant-loop-item : goal.invariant-loop-item
invariant-loop-item l = l.made.items ≡ map (branch_meant l.names) (take l.item-index l.branches)
