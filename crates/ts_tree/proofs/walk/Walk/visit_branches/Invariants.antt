use Rattle.std.proofs.Common.{◌≡◌, map, drop, fold, length}
use Rattle.ts_tree.specs.inner.Visiting.{visited}
use Rattle.ts_tree.proofs.walk.Walk.visit_branches.Given as goal

abbrev pub invariant-loop-branch : goal.invariant-loop-branch
invariant-loop-branch l = record {
  wide : length l.self.marked ≡ length l.initial.self.marked;
  rest : fold visited l.self (map (λ b. b.to) (drop l.branch-index l.branches)) ≡ fold visited l.initial.self (map (λ b. b.to) l.branches);
}
