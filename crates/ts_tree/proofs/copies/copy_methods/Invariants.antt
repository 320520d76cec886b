use Rattle.std.proofs.Common.{◌≡◌, map, take}
use Rattle.ts_tree.specs.View.{method_of}
use Rattle.ts_tree.proofs.copies.copy_methods.Given as goal

abbrev pub invariant-loop-method : goal.invariant-loop-method
invariant-loop-method l = map method_of l.copies.items ≡ map method_of (take l.method-index l.methods)
