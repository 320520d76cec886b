use Rattle.std.proofs.Common.{◌≡◌, ◌+◌, ◌*◌, drop}
use Rattle.scr_tree.specs.View.{statements}
use Rattle.scr_judge.specs.inner.OnSpot.{test, walk, walk_in}
use Rattle.scr_judge.specs.inner.View.{begins_of, names_of}
use Rattle.scr_tree.specs.View.{bodies}
use Rattle.scr_judge.proofs.on_spot.+on_spot.Given as goal

abbrev pub invariant-find_all-loop-statement : goal.invariant-find_all-loop-statement
invariant-find_all-loop-statement l =
    walk (test l.check) (begins_of l.fn.begins) (names_of l.around) (statements l.body)
    ≡ walk (test l.check) (begins_of l.begins) (names_of l.around) (statements (drop l.statement-index l.body))

abbrev pub invariant-find_in-loop-branch : goal.invariant-find_in-loop-branch
invariant-find_in-loop-branch l =
    walk_in (test l.check) l.at (names_of l.around) (bodies l.branches) ≡ walk_in (test l.check) l.at (names_of l.around)
    (bodies (drop l.branch-index l.branches))

abbrev pub decreases-find_at : goal.decreases-find_at
decreases-find_at l = 3 * goal.size-find_at l

abbrev pub decreases-find_all : goal.decreases-find_all
decreases-find_all l = 3 * goal.size-find_all l + 1

abbrev pub decreases-find_in : goal.decreases-find_in
decreases-find_in l = 3 * goal.size-find_in l + 2
