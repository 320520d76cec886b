use Rattle.std.proofs.Common.{◌≡◌, ◌+◌, ◌*◌, ◌++◌, drop, map, max}
use Rattle.jv_core.specs.View.{expr_of, exprs_of}
use Rattle.jv_core.specs.declared.tree.CoreExpr.{size-CoreExpr}
use Rattle.mg_shown.specs.inner.Walking.{sites_in_args}
use Rattle.mg_shown.proofs.sites.+calls.Given as goal

abbrev pub invariant-sites_in_args-loop-arg : goal.invariant-sites_in_args-loop-arg
invariant-sites_in_args-loop-arg l =
    l.sites.items ++ sites_in_args l.within (exprs_of (map expr_of (drop l.arg-index l.args)))
    ≡ l.initial.sites.items ++ sites_in_args l.within (exprs_of (map expr_of l.args))

abbrev pub decreases-sites_in : goal.decreases-sites_in
decreases-sites_in l = 4 * goal.size-sites_in l + 0

abbrev pub decreases-sites_in_two : goal.decreases-sites_in_two
decreases-sites_in_two l = 4 * max (size-CoreExpr l.left.now) (size-CoreExpr l.right.now) + 1

abbrev pub decreases-sites_in_args : goal.decreases-sites_in_args
decreases-sites_in_args l = 4 * goal.size-sites_in_args l + 1
