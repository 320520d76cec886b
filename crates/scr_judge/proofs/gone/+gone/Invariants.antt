use Rattle.std.proofs.Common.{◌≡◌, ◌+◌, ◌*◌, ◌++◌, ◌&&◌, ◌||◌, drop}
use Rattle.scr_tree.specs.View.{statements, bodies}
use Rattle.scr_tree.specs.Control.{passes, some_passes}
use Rattle.scr_judge.specs.inner.Round.{gone, gone_in}
use Rattle.scr_judge.specs.inner.View.{told_names}
use Rattle.scr_judge.proofs.gone.+gone.Given as goal

abbrev pub invariant-gone_all-loop-statement : goal.invariant-gone_all-loop-statement
invariant-gone_all-loop-statement l = record {
  passes : passes (statements l.body) ≡ (l.quiet && passes (statements (drop l.statement-index l.body)));
  names : told_names l.initial.out.items ++ gone l.at_once (statements l.body) ≡ told_names l.out.items ++ gone (l.quiet && l.at_once)
      (statements (drop l.statement-index l.body));
}

abbrev pub invariant-gone_in-loop-branch : goal.invariant-gone_in-loop-branch
invariant-gone_in-loop-branch l = record {
  passes : some_passes (bodies l.branches) ≡ (l.some || some_passes (bodies (drop l.branch-index l.branches)));
  names : told_names l.initial.out.items ++ gone_in l.at_once (bodies l.branches) ≡ told_names l.out.items ++ gone_in l.at_once
      (bodies (drop l.branch-index l.branches));
}

abbrev pub decreases-gone_at : goal.decreases-gone_at
decreases-gone_at l = 3 * goal.size-gone_at l

abbrev pub decreases-gone_all : goal.decreases-gone_all
decreases-gone_all l = 3 * goal.size-gone_all l + 1

abbrev pub decreases-gone_in : goal.decreases-gone_in
decreases-gone_in l = 3 * goal.size-gone_in l + 2
