use Rattle.std.proofs.Common.{◌≡◌, ◌+◌, ◌*◌, map, max}
use Rattle.jv_core.specs.declared.tree.CoreExpr.{size-CoreExpr}
use Rattle.jv_core.specs.View.{expr_of, exprs_of}
use Rattle.use_flow.specs.View.{log_of}
use Rattle.use_flow.specs.inner.Followed.{seen, eval_all, width_of}
use Rattle.use_flow.proofs.Following.{rest_argued}
use Rattle.use_flow.proofs.scene.Scene.+expressions.Given as goal

abbrev pub invariant-eval_all-loop-i : goal.invariant-eval_all-loop-i
invariant-eval_all-loop-i l =
    rest_argued (seen l.self) l.params l.args l.i l.sets l.now (log_of l.log)
    ≡ eval_all (seen l.self) (map (width_of (seen l.self)) (map (λ s. s.ty) l.params)) (exprs_of (map expr_of l.args)) l.initial.now
    (log_of l.initial.log)

abbrev pub decreases-eval : goal.decreases-eval
decreases-eval l = 5 * goal.size-eval l + 0

abbrev pub decreases-eval_now : goal.decreases-eval_now
decreases-eval_now l = 5 * goal.size-eval_now l + 1

abbrev pub decreases-eval_past : goal.decreases-eval_past
decreases-eval_past l = 5 * goal.size-eval_past l + 2

abbrev pub decreases-eval_ways : goal.decreases-eval_ways
decreases-eval_ways l = 5 * goal.size-eval_ways l + 2

abbrev pub decreases-eval_not : goal.decreases-eval_not
decreases-eval_not l = 5 * goal.size-eval_not l + 3

abbrev pub decreases-eval_all : goal.decreases-eval_all
decreases-eval_all l = 5 * goal.size-eval_all l + 2

abbrev pub decreases-eval_session : goal.decreases-eval_session
decreases-eval_session l = 5 * goal.size-eval_session l + 3

abbrev pub decreases-eval_both : goal.decreases-eval_both
decreases-eval_both l = 5 * max (size-CoreExpr l.left.now) (size-CoreExpr l.right.now) + 3

abbrev pub decreases-eval_and : goal.decreases-eval_and
decreases-eval_and l = 5 * max (size-CoreExpr l.left.now) (size-CoreExpr l.right.now) + 3

abbrev pub decreases-eval_or : goal.decreases-eval_or
decreases-eval_or l = 5 * max (size-CoreExpr l.left.now) (size-CoreExpr l.right.now) + 3

abbrev pub decreases-eval_call : goal.decreases-eval_call
decreases-eval_call l = 5 * goal.size-eval_call l + 4
