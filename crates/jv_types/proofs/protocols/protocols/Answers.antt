use Rattle.std.proofs.Common.{arith}
use Rattle.std.proofs.lemmas.Grind.{common_steps}
use Rattle.jv_types.proofs.Offering.{typestate_more}
use Rattle.jv_types.proofs.protocols.protocols.Goals as goal

pub loop-typestate-preserved : goal.loop-typestate-preserved
loop-typestate-preserved c =
    typestate_more c.args.typestates.now c.loop-typestate.typestate-index c.typestate-item.result c.loop-typestate-test.true
    c.typestate-item.is _ _ c.in_ok-protocol.protocol c.in_ok-push.ensures.items
    c.in_ok-protocol.ensures c.loop-typestate.invariant

pub returns : goal.returns
returns c = grind (arith, common_steps)
