use Rattle.std.proofs.Common.{◌≡◌, drop}
use Rattle.scr_judge.specs.inner.OnSpot.{some_empty}
use Rattle.scr_tree.specs.View.{bodies}
use Rattle.scr_judge.proofs.starts.has_empty.Given as goal

abbrev pub invariant-loop-branch : goal.invariant-loop-branch
invariant-loop-branch l = some_empty (bodies l.branches) ≡ some_empty (bodies (drop l.branch-index l.branches))
