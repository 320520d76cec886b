use Rattle.std.proofs.Common.{◌≡◌, ◌+◌, ◌*◌, drop, map}
use Rattle.jv_core.specs.View.{stmt_of, stmts_of, group_of, groups_of}
use Rattle.fit_uses.specs.Uses.{returns_in, returns_in_groups}
use Rattle.fit_uses.proofs.returning.+returning.Given as goal

abbrev pub invariant-returns_in-loop-stmt : goal.invariant-returns_in-loop-stmt
invariant-returns_in-loop-stmt l = returns_in (stmts_of (map stmt_of (drop l.stmt-index l.body))) ≡ returns_in
    (stmts_of (map stmt_of l.body))

abbrev pub invariant-returns_in_groups-loop-group : goal.invariant-returns_in_groups-loop-group
invariant-returns_in_groups-loop-group l =
    returns_in_groups (groups_of (map group_of (drop l.group-index l.groups))) ≡ returns_in_groups (groups_of (map group_of l.groups))

abbrev pub decreases-returns : goal.decreases-returns
decreases-returns l = 4 * goal.size-returns l + 0

abbrev pub decreases-returns_in : goal.decreases-returns_in
decreases-returns_in l = 4 * goal.size-returns_in l + 1

abbrev pub decreases-returns_in_groups : goal.decreases-returns_in_groups
decreases-returns_in_groups l = 4 * goal.size-returns_in_groups l + 2
