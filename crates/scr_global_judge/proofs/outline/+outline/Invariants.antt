use Rattle.std.proofs.Common.{◌≡◌, ◌+◌, ◌*◌, drop, Some}
use Rattle.scr_tree.specs.View as locals
use Rattle.scr_judge.specs.inner.View.{begins_of}
use Rattle.scr_global.specs.Texts.{behind}
use Rattle.scr_global_tree.specs.View.{statements, bodies}
use Rattle.scr_global_tree.proofs.Appends.{beside}
use Rattle.scr_global_judge.specs.inner.Outline.{outlined, outlined_each}
use Rattle.scr_global_judge.proofs.outline.+outline.Given as goal

abbrev pub invariant-outline_all-loop-statement : goal.invariant-outline_all-loop-statement
invariant-outline_all-loop-statement l =
    outlined (begins_of l.fn.begins) (statements l.body) ≡ behind (locals.statements l.outline.items)
    (outlined (begins_of l.begins) (statements (drop l.statement-index l.body)))

abbrev pub invariant-outline_in-loop-branch : goal.invariant-outline_in-loop-branch
invariant-outline_in-loop-branch l =
    outlined_each l.at (bodies l.branches) ≡ beside (locals.bodies l.outline.items)
    (outlined_each l.at (bodies (drop l.branch-index l.branches)))

abbrev pub decreases-outline_at : goal.decreases-outline_at
decreases-outline_at l = 3 * goal.size-outline_at l

abbrev pub decreases-outline_all : goal.decreases-outline_all
decreases-outline_all l = 3 * goal.size-outline_all l + 1

abbrev pub decreases-outline_in : goal.decreases-outline_in
decreases-outline_in l = 3 * goal.size-outline_in l + 2
