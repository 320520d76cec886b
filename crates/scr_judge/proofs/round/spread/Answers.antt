use Rattle.std.proofs.Common.{arith}
use Rattle.scr_judge.proofs.Searching.{spreads}
use Rattle.std.proofs.Common.{ℕ, get_or}
use Rattle.std.proofs.lemmas.List.{get_or_default}
use Rattle.scr_judge.proofs.Searching.{spread_more}
use Rattle.scr_judge.proofs.round.spread.Goals as goal

pub loop-node-preserved : goal.loop-node-preserved
loop-node-preserved c =
    let here : ℕ = get_or c.args.nodes.now c.loop-node.node-index 0 in
    spread_more c.args.nodes.now c.loop-node.node-index here c.args.to c.args.seen.now c.args.waiting.now.items c.loop-node.seen
    c.loop-node.waiting.items c.come_to.new.seen c.come_to.new.waiting.items
    c.loop-node-test.true (get_or_default c.args.nodes.now c.loop-node.node-index 0 here c.loop-node-test.true) c.if-node-to.false
    c.loop-node.invariant c.in_ok-come_to.ensures

pub returns-clause-spread : goal.returns-clause-spread
returns-clause-spread c = grind (arith, spreads)
