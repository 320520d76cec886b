use Rattle.std.proofs.Common.{arith}
use Rattle.use_flow.proofs.Holding.{more_held}
use Rattle.use_flow.proofs.held.filled.Goals as goal

pub loop-place-preserved : goal.loop-place-preserved
loop-place-preserved c =
    more_held c.args.core.now c.args.entries.now c.loop-place.place _ c.loop-place.keys.keys c.hold.new.keys.keys
    c.loop-place.sets.items c.hold.new.sets.items
    (omega arith) c.in_ok-hold.ensures c.loop-place.invariant
