use Rattle.std.proofs.Common.{◌≡◌, ◌+◌, ◌*◌, drop}
use Rattle.scr_global_tree.specs.View.{statements, bodies}
use Rattle.scr_global_judge.specs.inner.Roles.{test, walk, walk_in}
use Rattle.scr_global_judge.proofs.roles.+roles.Given as goal

abbrev pub invariant-find_all-loop-statement : goal.invariant-find_all-loop-statement
invariant-find_all-loop-statement l = walk (test l.check) (statements l.body) ≡ walk (test l.check)
    (statements (drop l.statement-index l.body))

abbrev pub invariant-find_in-loop-branch : goal.invariant-find_in-loop-branch
invariant-find_in-loop-branch l = walk_in (test l.check) (bodies l.branches) ≡ walk_in (test l.check)
    (bodies (drop l.branch-index l.branches))

abbrev pub decreases-find_at : goal.decreases-find_at
decreases-find_at l = 3 * goal.size-find_at l

abbrev pub decreases-find_all : goal.decreases-find_all
decreases-find_all l = 3 * goal.size-find_all l + 1

abbrev pub decreases-find_in : goal.decreases-find_in
decreases-find_in l = 3 * goal.size-find_in l + 2
