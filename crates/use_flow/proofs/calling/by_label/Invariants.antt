use Rattle.std.proofs.Common.{◌≡◌, drop}
use Rattle.ts_tree.specs.Calls.{by_label}
use Rattle.use_flow.proofs.calling.by_label.Given as goal

abbrev pub invariant-loop-branch : goal.invariant-loop-branch
invariant-loop-branch l = by_label (drop l.branch-index l.branches) l.label ≡ by_label l.branches l.label
