use Rattle.std.proofs.Common.{arith}
use Rattle.use_flow.proofs.Offering.{offered_all}
use Rattle.use_flow.proofs.offers.all_offers.Goals as goal

pub returns : goal.returns
returns c = offered_all c.args.core.now c.typestates-typestate-items.result.now c.loop-typestate.all.items c.loop-typestate.typestate-index
    c.loop-typestate.invariant (omega arith) c.typestates-typestate-items.ensures
