use Rattle.std.proofs.Common.{◌≡◌, ◌+◌, ◌*◌, ◌&&◌, ◌||◌, drop}
use Rattle.scr_tree.specs.View.{statements}
use Rattle.scr_tree.specs.Control.{passes, some_passes}
use Rattle.scr_judge.specs.inner.Finding.{kept, unguarded, unguarded_in}
use Rattle.scr_judge.specs.inner.View.{names_of, goal_of}
use Rattle.scr_judge.specs.inner.Round.{kept_goal}
use Rattle.scr_tree.specs.View.{bodies}
use Rattle.scr_judge.proofs.guards.+guards.Given as goal

abbrev pub invariant-unguarded_all-loop-statement : goal.invariant-unguarded_all-loop-statement
invariant-unguarded_all-loop-statement l = record {
  first : unguarded (names_of l.names) (goal_of l.goal) (statements l.body) ≡ unguarded (kept l.quiet (names_of l.names))
      (kept_goal l.quiet (goal_of l.goal)) (statements (drop l.statement-index l.body));
  passes : passes (statements l.body) ≡ (l.quiet && passes (statements (drop l.statement-index l.body)));
}

abbrev pub invariant-unguarded_in-loop-branch : goal.invariant-unguarded_in-loop-branch
invariant-unguarded_in-loop-branch l = record {
  first : unguarded_in (names_of l.names) (goal_of l.goal) (bodies l.branches) ≡ unguarded_in (names_of l.names) (goal_of l.goal)
      (bodies (drop l.branch-index l.branches));
  passes : some_passes (bodies l.branches) ≡ (l.some || some_passes (bodies (drop l.branch-index l.branches)));
}

abbrev pub decreases-unguarded_at : goal.decreases-unguarded_at
decreases-unguarded_at l = 4 * goal.size-unguarded_at l

abbrev pub decreases-unguarded_all : goal.decreases-unguarded_all
decreases-unguarded_all l = 4 * goal.size-unguarded_all l + 2

abbrev pub decreases-unguarded_in : goal.decreases-unguarded_in
decreases-unguarded_in l = 4 * goal.size-unguarded_in l + 3

abbrev pub decreases-unguarded_behind : goal.decreases-unguarded_behind
decreases-unguarded_behind l = 4 * goal.size-unguarded_behind l + 1
