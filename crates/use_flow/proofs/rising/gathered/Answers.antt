use Rattle.std.proofs.Common.{arith}
use Rattle.use_flow.proofs.Ascending.{number_risen}
use Rattle.use_flow.proofs.rising.gathered.Goals as goal

pub loop-number-preserved : goal.loop-number-preserved
loop-number-preserved c =
    number_risen c.args.numbers.now c.loop-number.number-index _ c.loop-number.set.keys c.insert.new.self.keys _ (omega arith)
    c.in_ok-_new.ensures.keys c.loop-number.invariant
