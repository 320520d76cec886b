use Rattle.std.proofs.Common.{◌≡◌, ◌+◌, ◌*◌, drop}
use Rattle.scr_same.proofs.Sameness.{lists_same, branches_same}
use Rattle.scr_same.proofs.same.+same.Given as goal

abbrev pub invariant-same_all-loop-statement : goal.invariant-same_all-loop-statement
invariant-same_all-loop-statement l = lists_same l.some l.others ≡ lists_same (drop l.statement-index l.some) l.rest

abbrev pub invariant-same_in-loop-branch : goal.invariant-same_in-loop-branch
invariant-same_in-loop-branch l = branches_same l.some l.others ≡ branches_same (drop l.branch-index l.some) l.rest

abbrev pub decreases-same_at : goal.decreases-same_at
decreases-same_at l = 3 * goal.size-same_at l

abbrev pub decreases-same_all : goal.decreases-same_all
decreases-same_all l = 3 * goal.size-same_all l + 1

abbrev pub decreases-same_in : goal.decreases-same_in
decreases-same_in l = 3 * goal.size-same_in l + 2
