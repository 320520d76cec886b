use Rattle.std.proofs.Common.{arith}
use Rattle.mg_shown.proofs.Walking.{group_found}
use Rattle.mg_shown.proofs.sites.+statements.Goals as goal

pub sites_of_groups-loop-group-preserved : goal.sites_of_groups-loop-group-preserved
sites_of_groups-loop-group-preserved t c =
    group_found c.args.within c.args.groups.now c.loop-group.group-index c.loop-group.sites.items _ c.loop-group.invariant
    c.group-item.result c.as_slice.result.now c.sites_of_all.new.sites.items (omega arith) c.group-item.is
    c.as_slice.ensures.items c.in_ok-sites_of_all.ensures
