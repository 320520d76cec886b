use Rattle.std.proofs.Common.{◌≡◌, ◌+◌, ◌*◌, ◌++◌, drop, map, max}
use Rattle.jv_core.specs.View.{expr_of, exprs_of}
use Rattle.jv_core.specs.declared.tree.CoreExpr.{size-CoreExpr}
use Rattle.use_rules.specs.Reads.{calls_in_all}
use Rattle.use_flow.proofs.named.+calls.Given as goal

abbrev pub invariant-calls_in_all-loop-arg : goal.invariant-calls_in_all-loop-arg
invariant-calls_in_all-loop-arg l =
    l.named.items ++ calls_in_all (exprs_of (map expr_of (drop l.arg-index l.args))) ≡ l.initial.named.items
    ++ calls_in_all (exprs_of (map expr_of l.args))

abbrev pub decreases-calls_in : goal.decreases-calls_in
decreases-calls_in l = 4 * goal.size-calls_in l + 0

abbrev pub decreases-calls_in_two : goal.decreases-calls_in_two
decreases-calls_in_two l = 4 * max (size-CoreExpr l.left.now) (size-CoreExpr l.right.now) + 1

abbrev pub decreases-calls_in_all : goal.decreases-calls_in_all
decreases-calls_in_all l = 4 * goal.size-calls_in_all l + 1
