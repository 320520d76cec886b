use Rattle.std.proofs.Common.{◌≡◌, ◌+◌, ◌*◌, ◌++◌, drop, map}
use Rattle.jv_core.specs.View.{stmt_of, stmts_of, group_of, groups_of}
use Rattle.mg_shown.specs.inner.Walking.{sites_of_all, sites_of_groups}
use Rattle.mg_shown.proofs.sites.+statements.Given as goal

abbrev pub invariant-sites_of_all-loop-stmt : goal.invariant-sites_of_all-loop-stmt
invariant-sites_of_all-loop-stmt l =
    l.sites.items ++ sites_of_all l.within (stmts_of (map stmt_of (drop l.stmt-index l.body)))
    ≡ l.initial.sites.items ++ sites_of_all l.within (stmts_of (map stmt_of l.body))

abbrev pub invariant-sites_of_groups-loop-group : goal.invariant-sites_of_groups-loop-group
invariant-sites_of_groups-loop-group l =
    l.sites.items ++ sites_of_groups l.within (groups_of (map group_of (drop l.group-index l.groups)))
    ≡ l.initial.sites.items ++ sites_of_groups l.within (groups_of (map group_of l.groups))

abbrev pub decreases-sites_of : goal.decreases-sites_of
decreases-sites_of l = 4 * goal.size-sites_of l + 0

abbrev pub decreases-sites_of_all : goal.decreases-sites_of_all
decreases-sites_of_all l = 4 * goal.size-sites_of_all l + 1

abbrev pub decreases-sites_of_groups : goal.decreases-sites_of_groups
decreases-sites_of_groups l = 4 * goal.size-sites_of_groups l + 2
