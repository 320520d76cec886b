use Rattle.std.proofs.Common.{◌≡◌, ◌+◌, ◌*◌, ◌++◌, drop, map}
use Rattle.std.specs.Option.{option_map}
use Rattle.jv_tree.specs.View.{expr_of, exprs_of}
use Rattle.jv_core.specs.View.{expr_of as core_expr}
use Rattle.jv_resolve_law.specs.Expressions.{resolved_all}
use Rattle.jv_resolve.specs.inner.Seen.{tables_seen, standing_seen}
use Rattle.jv_resolve.proofs.exprs.+exprs.Given as goal

abbrev pub decreases-resolve_expr : goal.decreases-resolve_expr
decreases-resolve_expr l = 4 * goal.size-resolve_expr l

abbrev pub decreases-resolve_operand : goal.decreases-resolve_operand
decreases-resolve_operand l = 4 * goal.size-resolve_operand l + 1

abbrev pub decreases-resolve_receiver : goal.decreases-resolve_receiver
decreases-resolve_receiver l = 4 * goal.size-resolve_receiver l + 2

abbrev pub decreases-resolve_args : goal.decreases-resolve_args
decreases-resolve_args l = 4 * goal.size-resolve_args l + 3

abbrev pub invariant-resolve_args-loop-arg : goal.invariant-resolve_args-loop-arg
invariant-resolve_args-loop-arg l =
    resolved_all (tables_seen l.scope.table.now) (standing_seen l.scope) l.locals (exprs_of (map expr_of l.args))
    ≡ option_map (λ es. map core_expr l.resolved.items ++ es)
    (resolved_all (tables_seen l.scope.table.now) (standing_seen l.scope) l.locals (exprs_of (map expr_of (drop l.arg-index l.args))))
