use Rattle.std.proofs.Common.{◌≡◌, ◌+◌, ◌*◌, drop}
use Rattle.scr_global_tree.specs.View.{statements, bodies}
use Rattle.scr_project.specs.inner.Walk.{found, found_each, followed, followed_each}
use Rattle.scr_project.specs.inner.View.{names_of, found_of, each_of}
use Rattle.scr_project.proofs.walk.+walk.Given as goal

abbrev pub invariant-found_all-loop-statement : goal.invariant-found_all-loop-statement
invariant-found_all-loop-statement l =
    found l.me (names_of l.around) (statements l.body) ≡ followed (found_of l.part)
    (found l.me (names_of l.around) (statements (drop l.statement-index l.body)))

abbrev pub invariant-found_in-loop-branch : goal.invariant-found_in-loop-branch
invariant-found_in-loop-branch l =
    found_each l.me (names_of l.around) (bodies l.branches) ≡ followed_each (each_of l.each)
    (found_each l.me (names_of l.around) (bodies (drop l.branch-index l.branches)))

abbrev pub decreases-found_at : goal.decreases-found_at
decreases-found_at l = 3 * goal.size-found_at l

abbrev pub decreases-found_all : goal.decreases-found_all
decreases-found_all l = 3 * goal.size-found_all l + 1

abbrev pub decreases-found_in : goal.decreases-found_in
decreases-found_in l = 3 * goal.size-found_in l + 2
