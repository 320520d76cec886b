use Rattle.std.proofs.Common.{◌≡◌, ◌+◌, ◌*◌, ◌++◌, drop, map}
use Rattle.jv_core.specs.View.{stmt_of, stmts_of, group_of, groups_of}
use Rattle.fit_uses.specs.Uses.{uses_in_all, uses_in_groups}
use Rattle.fit_uses.proofs.uses.+statements.Given as goal

abbrev pub invariant-uses_in_all-loop-stmt : goal.invariant-uses_in_all-loop-stmt
invariant-uses_in_all-loop-stmt l =
    l.uses.items ++ uses_in_all (stmts_of (map stmt_of (drop l.stmt-index l.body))) ≡ l.initial.uses.items
    ++ uses_in_all (stmts_of (map stmt_of l.body))

abbrev pub invariant-uses_in_groups-loop-group : goal.invariant-uses_in_groups-loop-group
invariant-uses_in_groups-loop-group l =
    l.uses.items ++ uses_in_groups (groups_of (map group_of (drop l.group-index l.groups))) ≡ l.initial.uses.items ++ uses_in_groups
    (groups_of (map group_of l.groups))

abbrev pub decreases-uses_in : goal.decreases-uses_in
decreases-uses_in l = 4 * goal.size-uses_in l + 0

abbrev pub decreases-uses_in_all : goal.decreases-uses_in_all
decreases-uses_in_all l = 4 * goal.size-uses_in_all l + 1

abbrev pub decreases-uses_in_groups : goal.decreases-uses_in_groups
decreases-uses_in_groups l = 4 * goal.size-uses_in_groups l + 2
