use Rattle.std.proofs.Common.{◌≡◌, drop}
use Rattle.scr_judge.specs.inner.OnSpot.{all_send}
use Rattle.scr_tree.specs.View.{bodies}
use Rattle.scr_judge.proofs.starts.all_send.Given as goal

abbrev pub invariant-loop-branch : goal.invariant-loop-branch
invariant-loop-branch l = all_send (bodies l.branches) ≡ all_send (bodies (drop l.branch-index l.branches))
