use Rattle.std.proofs.Common.{◌≡◌, map, drop, fold, length}
use Rattle.ts_tree.specs.View.{method_of}
use Rattle.ts_tree.specs.inner.Visiting.{visited, targets_in}
use Rattle.ts_tree.proofs.walk.Walk.visit_all.Given as goal

abbrev pub invariant-loop-method : goal.invariant-loop-method
invariant-loop-method l = record {
  wide : length l.self.marked ≡ length l.initial.self.marked;
  rest : fold visited l.self (targets_in (map method_of (drop l.method-index l.methods))) ≡ fold visited l.initial.self
      (targets_in (map method_of l.methods));
}
