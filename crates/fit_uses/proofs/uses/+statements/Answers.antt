use Rattle.std.proofs.Common.{arith}
use Rattle.fit_uses.proofs.Using.{group_used}
use Rattle.fit_uses.proofs.uses.+statements.Goals as goal

pub uses_in_groups-loop-group-preserved : goal.uses_in_groups-loop-group-preserved
uses_in_groups-loop-group-preserved t c =
    group_used c.args.groups.now c.loop-group.group-index c.loop-group.uses.items _ c.loop-group.invariant c.group-item.result
    c.as_slice.result.now c.uses_in_all.new.uses.items (omega arith) c.group-item.is c.as_slice.ensures.items c.in_ok-uses_in_all.ensures
