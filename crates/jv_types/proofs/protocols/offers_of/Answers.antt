use Rattle.std.proofs.Common.{map, arith}
use Rattle.std.proofs.lemmas.Grind.{common_steps}
use Rattle.ts_tree.specs.View.{state_of}
use Rattle.jv_rules.specs.Program.{offers_in}
use Rattle.jv_types.proofs.Offering.{offers_more}
use Rattle.jv_types.proofs.protocols.offers_of.Goals as goal

pub loop-state-preserved : goal.loop-state-preserved
loop-state-preserved c =
    offers_more c.args.states.now c.loop-state.state-index c.state-item.result c.loop-state-test.true c.state-item.is c.loop-state.all.items
    c.add_offers.new.all.items
    c.as_slice.result.now (offers_in (map state_of c.args.states.now)) c.loop-state.invariant c.in_ok-add_offers.ensures
    c.as_slice.ensures.items

pub returns : goal.returns
returns c = grind (arith, common_steps)
