use Rattle.std.proofs.Common.{◌≡◌, take}
use Rattle.ts_tree.proofs.copies.copy_types.Given as goal

abbrev pub invariant-loop-item : goal.invariant-loop-item
invariant-loop-item l = l.copies.items ≡ take l.item-index l.types
