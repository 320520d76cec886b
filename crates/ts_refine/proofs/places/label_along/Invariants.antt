use Rattle.std.proofs.Common.{◌≡◌, ◌-◌, drop, length}
use Rattle.ts_tree.specs.Calls.{by_label}
use Rattle.ts_refine.specs.inner.Judging.{has_label}
use Rattle.ts_refine.proofs.places.label_along.Given as goal

abbrev pub invariant-loop-place : goal.invariant-loop-place
invariant-loop-place l = record {
  has : has_label (drop l.place l.branches) l.label ≡ has_label l.branches l.label;
  to : by_label (drop l.place l.branches) l.label ≡ by_label l.branches l.label;
}

abbrev pub decreases-loop-place : goal.decreases-loop-place
decreases-loop-place l = length l.branches - l.place
