use Rattle.std.proofs.Common.{max, ◌≡◌, ◌+◌, ◌*◌, drop, map}
use Rattle.jv_core.specs.View.{expr_of, exprs_of}
use Rattle.gen_expressions.specs.Drafting.{arguments}
use Rattle.gen_expressions.specs.Held.{draft_in, method_in}
use Rattle.jv_core.specs.declared.tree.CoreExpr.{size-CoreExpr}
use Rattle.gen_expressions.proofs.coder.Coder.+expressions.Given as goal

abbrev pub invariant-arguments-loop-arg : goal.invariant-arguments-loop-arg
invariant-arguments-loop-arg l =
    arguments l.self.core.now (method_in l.self) l.locals (exprs_of (map expr_of (drop l.arg-index l.args))) (draft_in l.self l.draft)
    ≡ arguments l.self.core.now (method_in l.self) l.locals (exprs_of (map expr_of l.args)) (draft_in l.self l.initial.draft)

abbrev pub decreases-value : goal.decreases-value
decreases-value l = 10 * goal.size-value l + 0

abbrev pub decreases-jump_value : goal.decreases-jump_value
decreases-jump_value l = 10 * goal.size-jump_value l + 1

abbrev pub decreases-jump : goal.decreases-jump
decreases-jump l = 10 * goal.size-jump l + 2

abbrev pub decreases-two_values : goal.decreases-two_values
decreases-two_values l = 10 * max (size-CoreExpr l.left.now) (size-CoreExpr l.right.now) + 3

abbrev pub decreases-compare_null : goal.decreases-compare_null
decreases-compare_null l = 10 * goal.size-compare_null l + 3

abbrev pub decreases-compare : goal.decreases-compare
decreases-compare l = 10 * max (size-CoreExpr l.left.now) (size-CoreExpr l.right.now) + 4

abbrev pub decreases-jump_both : goal.decreases-jump_both
decreases-jump_both l = 10 * max (size-CoreExpr l.left.now) (size-CoreExpr l.right.now) + 4

abbrev pub decreases-jump_past : goal.decreases-jump_past
decreases-jump_past l = 10 * max (size-CoreExpr l.left.now) (size-CoreExpr l.right.now) + 4

abbrev pub decreases-jump_test : goal.decreases-jump_test
decreases-jump_test l = 10 * max (size-CoreExpr l.left.now) (size-CoreExpr l.right.now) + 5

abbrev pub decreases-operation : goal.decreases-operation
decreases-operation l = 10 * max (size-CoreExpr l.left.now) (size-CoreExpr l.right.now) + 4

abbrev pub decreases-sum : goal.decreases-sum
decreases-sum l = 10 * max (size-CoreExpr l.left.now) (size-CoreExpr l.right.now) + 5

abbrev pub decreases-call_text : goal.decreases-call_text
decreases-call_text l = 10 * max (size-CoreExpr l.left.now) (size-CoreExpr l.right.now) + 4

abbrev pub decreases-arguments : goal.decreases-arguments
decreases-arguments l = 10 * goal.size-arguments l + 1

abbrev pub decreases-call : goal.decreases-call
decreases-call l = 10 * goal.size-call l + 2

abbrev pub decreases-truth_of_test : goal.decreases-truth_of_test
decreases-truth_of_test l = 10 * max (size-CoreExpr l.left.now) (size-CoreExpr l.right.now) + 6

abbrev pub decreases-truth_of_not : goal.decreases-truth_of_not
decreases-truth_of_not l = 10 * goal.size-truth_of_not l + 3
