use Rattle.std.proofs.Common.{◌≡◌, drop}
use Rattle.std.specs.HashSet.{contains_text}
use Rattle.scr_tree.specs.View.{bodies}
use Rattle.scr_judge.specs.inner.Seen.{none}
use Rattle.scr_project.specs.inner.Merge.{tells}
use Rattle.scr_project.proofs.merge.tells.Given as goal

abbrev pub invariant-loop-branch : goal.invariant-loop-branch
invariant-loop-branch l = tells l.peer none (bodies l.branches) ≡ tells l.peer (contains_text l.labels)
    (bodies (drop l.branch-index l.branches))
