use Rattle.std.proofs.Common.{arith}
use Rattle.mg_faults.proofs.Saying.{nothing_said, one_said, all_said}
use Rattle.mg_faults.proofs.said.say_all.Goals as goal

pub loop-demand-init : goal.loop-demand-init
loop-demand-init c = nothing_said c.args.core.now c.args.demands.now _ _ c.new-lines.ensures.empty c.new-said.ensures.items

pub loop-demand-preserved : goal.loop-demand-preserved
loop-demand-preserved c =
    one_said c.args.core.now c.args.demands.now c.loop-demand.demand-index c.demand-item.result c.loop-demand.lines.keys c.say.new.lines.keys
    c.loop-demand.said.items c.say.new.said.items (omega arith) c.demand-item.is c.in_ok-say.ensures c.loop-demand.invariant

pub returns : goal.returns
returns c =
    all_said c.args.core.now c.args.demands.now c.loop-demand.demand-index c.loop-demand.lines.keys c.loop-demand.said.items (omega arith)
    c.loop-demand.invariant
