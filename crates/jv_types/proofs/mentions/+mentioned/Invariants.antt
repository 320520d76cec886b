use Rattle.std.proofs.Common.{◌≡◌, ◌+◌, ◌*◌, drop, map}
use Rattle.jv_tree.specs.View.{stmt_of, stmts_of, group_of, groups_of}
use Rattle.jv_rules.specs.Members.{mentions_in_stmts, mentions_in_groups}
use Rattle.jv_rules.specs.inner.Deciding.{first_by}
use Rattle.jv_types.specs.Tables.{program_in}
use Rattle.jv_types.specs.inner.Declaring.{unknown_class}
use Rattle.jv_types.proofs.mentions.+mentioned.Given as goal

abbrev pub invariant-unknown_in_stmts-loop-item : goal.invariant-unknown_in_stmts-loop-item
invariant-unknown_in_stmts-loop-item l =
    first_by (unknown_class (program_in l.table)) (mentions_in_stmts (stmts_of (map stmt_of (drop l.item-index l.body))))
    ≡ first_by (unknown_class (program_in l.table)) (mentions_in_stmts (stmts_of (map stmt_of l.body)))

abbrev pub invariant-unknown_in_groups-loop-item : goal.invariant-unknown_in_groups-loop-item
invariant-unknown_in_groups-loop-item l =
    first_by (unknown_class (program_in l.table)) (mentions_in_groups (groups_of (map group_of (drop l.item-index l.groups))))
    ≡ first_by (unknown_class (program_in l.table)) (mentions_in_groups (groups_of (map group_of l.groups)))

abbrev pub decreases-unknown_in_stmt : goal.decreases-unknown_in_stmt
decreases-unknown_in_stmt l = 4 * goal.size-unknown_in_stmt l

abbrev pub decreases-unknown_in_stmts : goal.decreases-unknown_in_stmts
decreases-unknown_in_stmts l = 4 * goal.size-unknown_in_stmts l + 1

abbrev pub decreases-unknown_in_groups : goal.decreases-unknown_in_groups
decreases-unknown_in_groups l = 4 * goal.size-unknown_in_groups l + 2
