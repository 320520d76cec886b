use denote.Shadow.{shadow}
use denote.Text.{Utf8}
use Rattle.std.proofs.Common.{◌≡◌, ◌+◌, ◌*◌, ◌++◌, [], drop, map, string_bytes}
use Rattle.jv_tree.specs.View.{expr_of, exprs_of}
use Rattle.jv_print.specs.Layout.{args_text}
use Rattle.jv_print.proofs.exprs.+exprs.Given as goal

abbrev pub invariant-put_args-loop-arg : goal.invariant-put_args-loop-arg
invariant-put_args-loop-arg l =
    shadow (Utf8 l.before)
    × (string_bytes l.initial.out ++ args_text [] (exprs_of (map expr_of l.args)) ≡ string_bytes l.out ++ args_text l.before
    (exprs_of (map expr_of (drop l.arg-index l.args))))

abbrev pub decreases-put_expr : goal.decreases-put_expr
decreases-put_expr l = 4 * goal.size-put_expr l

abbrev pub decreases-put_within : goal.decreases-put_within
decreases-put_within l = 4 * goal.size-put_within l + 1

abbrev pub decreases-put_args : goal.decreases-put_args
decreases-put_args l = 4 * goal.size-put_args l + 1

abbrev pub decreases-put_call : goal.decreases-put_call
decreases-put_call l = 4 * goal.size-put_call l + 2
