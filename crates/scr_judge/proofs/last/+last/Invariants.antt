use Rattle.std.proofs.Common.{◌≡◌, ◌+◌, ◌*◌, drop}
use Rattle.scr_tree.specs.View.{statements, bodies}
use Rattle.scr_judge.specs.inner.Gone.{not_last, not_last_in}
use Rattle.scr_judge.proofs.last.+last.Given as goal

abbrev pub invariant-last_all-loop-i : goal.invariant-last_all-loop-i
invariant-last_all-loop-i l = not_last l.followed (statements l.body) ≡ not_last l.followed (statements (drop l.i l.body))

abbrev pub invariant-last_in-loop-branch : goal.invariant-last_in-loop-branch
invariant-last_in-loop-branch l = not_last_in l.followed (bodies l.branches) ≡ not_last_in l.followed
    (bodies (drop l.branch-index l.branches))

abbrev pub decreases-last_at : goal.decreases-last_at
decreases-last_at l = 3 * goal.size-last_at l

abbrev pub decreases-last_all : goal.decreases-last_all
decreases-last_all l = 3 * goal.size-last_all l + 1

abbrev pub decreases-last_in : goal.decreases-last_in
decreases-last_in l = 3 * goal.size-last_in l + 2
