use Rattle.std.proofs.Common.{arith}
use Rattle.scr_trace.proofs.Ending.{settling_more, settling_all}
use Rattle.scr_trace.proofs.entries.settle.Goals as goal

pub loop-i-preserved : goal.loop-i-preserved
loop-i-preserved c =
    settling_more c.args.entries.now c.loop-i.entries c.write_along.new.entries c.loop-i.i c.end_of-end.result c.loop-i.invariant
    (let size = c.loop-i.invariant.as_many in omega (arith, size))
    c.write_along.ensures.as_many c.end_of-end.ensures.last c.write_along.ensures.written c.write_along.ensures.first

pub returns : goal.returns
returns c = settling_all c.args.entries.now c.loop-i.entries c.loop-i.i c.loop-i.invariant
    (let size = c.loop-i.invariant.as_many in omega (arith, size))
