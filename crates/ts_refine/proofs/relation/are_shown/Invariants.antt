use Rattle.std.proofs.Common.{◌≡◌, drop, map}
use Rattle.ts_tree.specs.View.{method_of}
use Rattle.ts_refine.specs.inner.Judging.{are_shown}
use Rattle.ts_refine.proofs.relation.are_shown.Given as goal

abbrev pub invariant-loop-method : goal.invariant-loop-method
invariant-loop-method l =
    are_shown l.known (map method_of l.others) (map method_of (drop l.method-index l.methods)) ≡ are_shown l.known (map method_of l.others)
    (map method_of l.methods)
