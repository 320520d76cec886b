use Rattle.std.proofs.Common.{◌≡◌, ◌≤◌, ◌+◌, ◌*◌, length, drop}
use Rattle.scr_tree.specs.View.{statements}
use Rattle.scr_trace.specs.inner.Laying.{lay, lay_in}
use Rattle.scr_trace.specs.inner.View.{number_by, known_of, work_of, gathered, bodies}
use Rattle.scr_trace.proofs.laying.+laying.Given as goal

abbrev pub invariant-lay_all-loop-i : goal.invariant-lay_all-loop-i
invariant-lay_all-loop-i l = record {
  within : l.i ≤ length l.body;
  laid : work_of l.out ≡ lay l.me (number_by l.names) (known_of l.around) (work_of l.fn.out) (statements (drop l.i l.body));
}

abbrev pub decreases-lay_all-loop-i : goal.decreases-lay_all-loop-i
decreases-lay_all-loop-i l = l.i

abbrev pub invariant-lay_branches-loop-i : goal.invariant-lay_branches-loop-i
invariant-lay_branches-loop-i l = record {
  within : l.i ≤ length l.branches;
  laid : gathered l.out l.arrows ≡ lay_in l.me (number_by l.names) (known_of l.around) l.at_self (work_of l.fn.out).next
      (gathered l.fn.out l.fn.arrows) (bodies (drop l.i l.branches));
}

abbrev pub decreases-lay_branches-loop-i : goal.decreases-lay_branches-loop-i
decreases-lay_branches-loop-i l = l.i

abbrev pub decreases-lay_at : goal.decreases-lay_at
decreases-lay_at l = 4 * goal.size-lay_at l

abbrev pub decreases-lay_all : goal.decreases-lay_all
decreases-lay_all l = 4 * goal.size-lay_all l + 1

abbrev pub decreases-lay_branch : goal.decreases-lay_branch
decreases-lay_branch l = 4 * goal.size-lay_branch l + 2

abbrev pub decreases-lay_branches : goal.decreases-lay_branches
decreases-lay_branches l = 4 * goal.size-lay_branches l + 3
