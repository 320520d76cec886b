use Rattle.std.proofs.Common.{arith}
use Rattle.use_flow.proofs.Entries.{reached_all, all_proper}
use Rattle.use_flow.proofs.entered.reached_sets.Goals as goal

pub returns-clause-reached : goal.returns-clause-reached
returns-clause-reached c = reached_all c.args.core.now c.typestates-typestate-items.result.now c.loop-typestate.reached.items
    c.loop-typestate.typestate-index
    c.loop-typestate.invariant (omega arith) c.typestates-typestate-items.ensures

pub returns-clause-proper : goal.returns-clause-proper
returns-clause-proper c = all_proper c.args.core.now c.typestates-typestate-items.result.now c.loop-typestate.reached.items
    c.loop-typestate.typestate-index
    c.loop-typestate.invariant (omega arith) c.typestates-typestate-items.ensures
