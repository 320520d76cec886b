use Rattle.std.proofs.Common.{◌≡◌, ◌++◌, drop}
use Rattle.scr_tree.specs.View.{bodies}
use Rattle.stm_api.specs.inner.Does.{labels_in}
use Rattle.stm_api.specs.inner.View.{names_of}
use Rattle.stm_api.proofs.doings.labels_of.Given as goal

abbrev pub invariant-loop-branch : goal.invariant-loop-branch
invariant-loop-branch l = labels_in (bodies l.branches) ≡ names_of l.labels.items ++ labels_in (bodies (drop l.branch-index l.branches))
