use Rattle.std.proofs.Common.{arith}
use Rattle.use_flow.proofs.Naming.{group_named}
use Rattle.use_flow.proofs.named.+statements.Goals as goal

pub named_in_groups-loop-group-preserved : goal.named_in_groups-loop-group-preserved
named_in_groups-loop-group-preserved t c =
    group_named c.args.groups.now c.loop-group.group-index c.loop-group.named.items _ c.loop-group.invariant c.group-item.result
    c.as_slice.result.now c.named_in_all.new.named.items (omega arith) c.group-item.is c.as_slice.ensures.items c.in_ok-named_in_all.ensures
