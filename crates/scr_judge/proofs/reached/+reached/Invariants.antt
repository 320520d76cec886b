use Rattle.std.proofs.Common.{◌≡◌, ◌+◌, ◌*◌, ◌&&◌, ◌||◌, drop}
use Rattle.scr_tree.specs.View.{statements}
use Rattle.scr_tree.specs.Control.{falls, some_falls}
use Rattle.scr_judge.specs.inner.Finding.{unreachable, unreachable_in, unreachable_behind}
use Rattle.scr_tree.specs.View.{bodies}
use Rattle.scr_judge.proofs.reached.+reached.Given as goal

abbrev pub invariant-unreachable_all-loop-statement : goal.invariant-unreachable_all-loop-statement
invariant-unreachable_all-loop-statement l = record {
  first : unreachable (statements l.body) ≡ unreachable_behind l.falls (statements (drop l.statement-index l.body));
  falls : falls (statements l.body) ≡ (l.falls && falls (statements (drop l.statement-index l.body)));
}

abbrev pub invariant-unreachable_in-loop-branch : goal.invariant-unreachable_in-loop-branch
invariant-unreachable_in-loop-branch l = record {
  first : unreachable_in (bodies l.branches) ≡ unreachable_in (bodies (drop l.branch-index l.branches));
  falls : some_falls (bodies l.branches) ≡ (l.some || some_falls (bodies (drop l.branch-index l.branches)));
}

abbrev pub decreases-unreachable_at : goal.decreases-unreachable_at
decreases-unreachable_at l = 3 * goal.size-unreachable_at l

abbrev pub decreases-unreachable_all : goal.decreases-unreachable_all
decreases-unreachable_all l = 3 * goal.size-unreachable_all l + 1

abbrev pub decreases-unreachable_in : goal.decreases-unreachable_in
decreases-unreachable_in l = 3 * goal.size-unreachable_in l + 2
