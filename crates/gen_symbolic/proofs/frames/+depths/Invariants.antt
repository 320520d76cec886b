use Rattle.std.proofs.Common.{max, ◌≡◌, ◌≤◌, ◌+◌, ◌*◌, drop, map, length}
use Rattle.jv_core.specs.View.{expr_of, exprs_of}
use Rattle.gen_rules.specs.Frames.{depth_of_arguments}
use Rattle.gen_expressions.specs.Held.{method_in}
use Rattle.jv_core.specs.declared.tree.CoreExpr.{size-CoreExpr}
use Rattle.gen_symbolic.proofs.frames.+depths.Given as goal

abbrev pub invariant-arguments_depth-loop-left : goal.invariant-arguments_depth-loop-left
invariant-arguments_depth-loop-left l = record {
  within : l.left ≤ length l.args;
  depth : l.depth ≡ depth_of_arguments l.coder.core.now (method_in l.coder) (exprs_of (map expr_of (drop l.left l.args)));
}

abbrev pub decreases-arguments_depth-loop-left : goal.decreases-arguments_depth-loop-left
decreases-arguments_depth-loop-left l = l.left

abbrev pub decreases-expression_depths : goal.decreases-expression_depths
decreases-expression_depths l = 4 * goal.size-expression_depths l + 0

abbrev pub decreases-arguments_depth : goal.decreases-arguments_depth
decreases-arguments_depth l = 4 * goal.size-arguments_depth l + 1

abbrev pub decreases-depths_on : goal.decreases-depths_on
decreases-depths_on l = 4 * goal.size-depths_on l + 2

abbrev pub decreases-depths_with : goal.decreases-depths_with
decreases-depths_with l = 4 * goal.size-depths_with l + 2

abbrev pub decreases-depths_of_two : goal.decreases-depths_of_two
decreases-depths_of_two l = 4 * max (size-CoreExpr l.left.now) (size-CoreExpr l.right.now) + 1

abbrev pub decreases-comparison_depths : goal.decreases-comparison_depths
decreases-comparison_depths l = 4 * max (size-CoreExpr l.left.now) (size-CoreExpr l.right.now) + 1

abbrev pub decreases-binary_depths : goal.decreases-binary_depths
decreases-binary_depths l = 4 * max (size-CoreExpr l.left.now) (size-CoreExpr l.right.now) + 2
