use Rattle.std.proofs.Common.{◌≡◌, ◌+◌, ◌*◌, drop}
use Rattle.scr_tree.specs.View.{statements}
use Rattle.scr_judge.specs.inner.Gone.{first_of}
use Rattle.scr_judge.proofs.opening.+firsts.Given as goal

abbrev pub invariant-first_of-loop-statement : goal.invariant-first_of-loop-statement
invariant-first_of-loop-statement l = first_of (statements l.body) ≡ first_of (statements (drop l.statement-index l.body))

abbrev pub decreases-first_at : goal.decreases-first_at
decreases-first_at l = 2 * goal.size-first_at l

abbrev pub decreases-first_of : goal.decreases-first_of
decreases-first_of l = 2 * goal.size-first_of l + 1
