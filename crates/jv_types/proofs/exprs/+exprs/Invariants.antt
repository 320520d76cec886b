use Rattle.std.proofs.Common.{◌+◌, ◌*◌, drop, map}
use Rattle.jv_tree.specs.View.{expr_of, exprs_of}
use Rattle.jv_types.specs.inner.Scopes.{scope_seen}
use Rattle.jv_types.specs.inner.Calls.{AreLeft}
use Rattle.jv_types.proofs.exprs.+exprs.Given as goal

abbrev pub invariant-check_args-loop-arg : goal.invariant-check_args-loop-arg
invariant-check_args-loop-arg l = AreLeft (scope_seen l.scope l.locals) (exprs_of (map expr_of l.args))
    (exprs_of (map expr_of (drop l.arg-index l.args))) l.given

abbrev pub decreases-check_expr : goal.decreases-check_expr
decreases-check_expr l = 4 * goal.size-check_expr l

abbrev pub decreases-check_member : goal.decreases-check_member
decreases-check_member l = 4 * goal.size-check_member l + 1

abbrev pub decreases-check_receiver : goal.decreases-check_receiver
decreases-check_receiver l = 4 * goal.size-check_receiver l + 1

abbrev pub decreases-check_args : goal.decreases-check_args
decreases-check_args l = 4 * goal.size-check_args l + 1
