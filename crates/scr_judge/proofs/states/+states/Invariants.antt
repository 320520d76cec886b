use Rattle.std.proofs.Common.{◌≡◌, ◌+◌, ◌*◌, drop}
use Rattle.scr_tree.specs.View.{statements}
use Rattle.scr_judge.specs.inner.Counting.{counted, counted_in}
use Rattle.scr_tree.specs.View.{bodies}
use Rattle.scr_judge.proofs.states.+states.Given as goal

abbrev pub invariant-count_all-loop-statement : goal.invariant-count_all-loop-statement
invariant-count_all-loop-statement l = counted l.me l.fn.first l.fn.count (statements l.body) ≡ counted l.me l.first l.count
    (statements (drop l.statement-index l.body))

abbrev pub invariant-count_in-loop-branch : goal.invariant-count_in-loop-branch
invariant-count_in-loop-branch l = counted_in l.me l.at_self l.fn.count (bodies l.branches) ≡ counted_in l.me l.at_self l.count
    (bodies (drop l.branch-index l.branches))

abbrev pub decreases-count_at : goal.decreases-count_at
decreases-count_at l = 3 * goal.size-count_at l

abbrev pub decreases-count_all : goal.decreases-count_all
decreases-count_all l = 3 * goal.size-count_all l + 1

abbrev pub decreases-count_in : goal.decreases-count_in
decreases-count_in l = 3 * goal.size-count_in l + 2
