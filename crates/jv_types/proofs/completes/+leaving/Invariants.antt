use Rattle.std.proofs.Common.{◌+◌, ◌*◌, drop, map}
use Rattle.jv_tree.specs.View.{stmt_of, stmts_of, group_of, groups_of}
use Rattle.jv_types.specs.inner.Exits.{met_at}
use Rattle.jv_types.proofs.Leaving.{AreLeft, GroupsAreLeft}
use Rattle.jv_types.proofs.completes.+leaving.Given as goal

abbrev pub decreases-leave_stmt : goal.decreases-leave_stmt
decreases-leave_stmt l = 4 * goal.size-leave_stmt l

abbrev pub decreases-leave_stmts : goal.decreases-leave_stmts
decreases-leave_stmts l = 4 * goal.size-leave_stmts l + 1

abbrev pub decreases-leave_groups : goal.decreases-leave_groups
decreases-leave_groups l = 4 * goal.size-leave_groups l + 2

abbrev pub invariant-leave_stmts-loop-stmt : goal.invariant-leave_stmts-loop-stmt
invariant-leave_stmts-loop-stmt l =
    AreLeft (stmts_of (map stmt_of l.stmts)) (stmts_of (map stmt_of (drop l.stmt-index l.stmts))) (met_at l.initial.exits) (met_at l.exits)

abbrev pub invariant-leave_groups-loop-group : goal.invariant-leave_groups-loop-group
invariant-leave_groups-loop-group l =
    GroupsAreLeft (groups_of (map group_of l.groups)) (groups_of (map group_of (drop l.group-index l.groups))) (met_at l.initial.exits)
    (met_at l.exits) l.last
