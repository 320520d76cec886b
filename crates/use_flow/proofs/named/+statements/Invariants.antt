use Rattle.std.proofs.Common.{◌≡◌, ◌+◌, ◌*◌, ◌++◌, drop, map}
use Rattle.jv_core.specs.View.{stmt_of, stmts_of, group_of, groups_of}
use Rattle.use_rules.specs.Reads.{named_in_all, named_in_groups}
use Rattle.use_flow.proofs.named.+statements.Given as goal

abbrev pub invariant-named_in_all-loop-stmt : goal.invariant-named_in_all-loop-stmt
invariant-named_in_all-loop-stmt l =
    l.named.items ++ named_in_all (stmts_of (map stmt_of (drop l.stmt-index l.body))) ≡ l.initial.named.items
    ++ named_in_all (stmts_of (map stmt_of l.body))

abbrev pub invariant-named_in_groups-loop-group : goal.invariant-named_in_groups-loop-group
invariant-named_in_groups-loop-group l =
    l.named.items ++ named_in_groups (groups_of (map group_of (drop l.group-index l.groups))) ≡ l.initial.named.items ++ named_in_groups
    (groups_of (map group_of l.groups))

abbrev pub decreases-named_in : goal.decreases-named_in
decreases-named_in l = 4 * goal.size-named_in l + 0

abbrev pub decreases-named_in_all : goal.decreases-named_in_all
decreases-named_in_all l = 4 * goal.size-named_in_all l + 1

abbrev pub decreases-named_in_groups : goal.decreases-named_in_groups
decreases-named_in_groups l = 4 * goal.size-named_in_groups l + 2
