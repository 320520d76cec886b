use Rattle.std.proofs.Common.{arith}
use Rattle.mg_verified.proofs.Tried.{counted_more, counted_all}
use Rattle.mg_verified.proofs.verified.count.Goals as goal

pub loop-class-preserved : goal.loop-class-preserved
loop-class-preserved c =
    counted_more c.loop-class.count c.args.classes.now c.loop-class.class-index c.class-item.result c.in-Some.more c.loop-class-test.true
    c.class-item.is (omega (arith, c.in-Some.ensures, c.len.ensures.value)) c.loop-class.invariant

pub returns : goal.returns
returns c = counted_all c.loop-class.count c.args.classes.now c.loop-class.class-index (omega (arith, c.loop-class-test.false))
    c.loop-class.invariant
