use Rattle.std.proofs.Common.{◌≡◌, ◌+◌, ◌*◌, ◌++◌, drop, map, max}
use Rattle.jv_core.specs.View.{expr_of, exprs_of}
use Rattle.jv_core.specs.declared.tree.CoreExpr.{size-CoreExpr}
use Rattle.fit_uses.specs.Uses.{uses_of_all}
use Rattle.fit_uses.proofs.uses.+expressions.Given as goal

abbrev pub invariant-uses_of_all-loop-arg : goal.invariant-uses_of_all-loop-arg
invariant-uses_of_all-loop-arg l =
    l.uses.items ++ uses_of_all (exprs_of (map expr_of (drop l.arg-index l.args))) ≡ l.initial.uses.items
    ++ uses_of_all (exprs_of (map expr_of l.args))

abbrev pub decreases-uses_of : goal.decreases-uses_of
decreases-uses_of l = 4 * goal.size-uses_of l + 0

abbrev pub decreases-uses_of_two : goal.decreases-uses_of_two
decreases-uses_of_two l = 4 * max (size-CoreExpr l.left.now) (size-CoreExpr l.right.now) + 1

abbrev pub decreases-uses_of_all : goal.decreases-uses_of_all
decreases-uses_of_all l = 4 * goal.size-uses_of_all l + 1
