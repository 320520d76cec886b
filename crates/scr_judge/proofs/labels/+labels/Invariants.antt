use Rattle.std.proofs.Common.{◌≡◌, ◌+◌, ◌*◌, drop}
use Rattle.std.specs.HashSet.{contains_text}
use Rattle.scr_tree.specs.View.{statements}
use Rattle.scr_judge.specs.inner.Finding.{same, same_in}
use Rattle.scr_judge.specs.inner.Seen.{none}
use Rattle.scr_tree.specs.View.{bodies}
use Rattle.scr_judge.proofs.labels.+labels.Given as goal

abbrev pub invariant-same_all-loop-statement : goal.invariant-same_all-loop-statement
invariant-same_all-loop-statement l = same l.me (statements l.body) ≡ same l.me (statements (drop l.statement-index l.body))

abbrev pub invariant-same_in-loop-branch : goal.invariant-same_in-loop-branch
invariant-same_in-loop-branch l = same_in l.me l.at none (bodies l.branches) ≡ same_in l.me l.at (contains_text l.keys)
    (bodies (drop l.branch-index l.branches))

abbrev pub decreases-same_at : goal.decreases-same_at
decreases-same_at l = 3 * goal.size-same_at l

abbrev pub decreases-same_all : goal.decreases-same_all
decreases-same_all l = 3 * goal.size-same_all l + 1

abbrev pub decreases-same_in : goal.decreases-same_in
decreases-same_in l = 3 * goal.size-same_in l + 2
