use Rattle.std.proofs.Common.{◌≡◌, ◌+◌, ◌*◌, ◌||◌, drop}
use Rattle.scr_tree.specs.View.{statements}
use Rattle.scr_judge.specs.inner.Gone.{acts}
use Rattle.scr_judge.proofs.opening.+deeds.Given as goal

abbrev pub invariant-has_deed-loop-statement : goal.invariant-has_deed-loop-statement
invariant-has_deed-loop-statement l = acts (statements l.body) ≡ (l.found || acts (statements (drop l.statement-index l.body)))

abbrev pub decreases-is_deed : goal.decreases-is_deed
decreases-is_deed l = 2 * goal.size-is_deed l

abbrev pub decreases-has_deed : goal.decreases-has_deed
decreases-has_deed l = 2 * goal.size-has_deed l + 1
