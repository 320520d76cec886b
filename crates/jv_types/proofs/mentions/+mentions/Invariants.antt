use Rattle.std.proofs.Common.{◌≡◌, ◌+◌, ◌*◌, drop, map}
use Rattle.jv_tree.specs.View.{expr_of, exprs_of}
use Rattle.jv_rules.specs.Members.{mentions_in_args}
use Rattle.jv_rules.specs.inner.Deciding.{first_by}
use Rattle.jv_types.specs.Tables.{program_in}
use Rattle.jv_types.specs.inner.Declaring.{unknown_class}
use Rattle.jv_types.proofs.mentions.+mentions.Given as goal

abbrev pub invariant-unknown_in_args-loop-item : goal.invariant-unknown_in_args-loop-item
invariant-unknown_in_args-loop-item l =
    first_by (unknown_class (program_in l.table)) (mentions_in_args (exprs_of (map expr_of (drop l.item-index l.args))))
    ≡ first_by (unknown_class (program_in l.table)) (mentions_in_args (exprs_of (map expr_of l.args)))

abbrev pub decreases-unknown_in : goal.decreases-unknown_in
decreases-unknown_in l = 2 * goal.size-unknown_in l

abbrev pub decreases-unknown_in_args : goal.decreases-unknown_in_args
decreases-unknown_in_args l = 2 * goal.size-unknown_in_args l + 1
