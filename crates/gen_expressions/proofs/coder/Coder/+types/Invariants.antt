use Rattle.std.proofs.Common.{max, ◌+◌, ◌*◌}
use Rattle.jv_core.specs.declared.tree.CoreExpr.{size-CoreExpr}
use Rattle.gen_expressions.proofs.coder.Coder.+types.Given as goal

abbrev pub decreases-type_of : goal.decreases-type_of
decreases-type_of l = 2 * goal.size-type_of l

abbrev pub decreases-binary_type : goal.decreases-binary_type
decreases-binary_type l = 2 * max (size-CoreExpr l.left.now) (size-CoreExpr l.right.now) + 1
