use Rattle.std.proofs.Common.{arith}
use Rattle.use_flow.proofs.Apart.{inserted}
use Rattle.use_flow.proofs.held.numbered.Goals as goal

pub loop-place-preserved : goal.loop-place-preserved
loop-place-preserved c =
    inserted c.args.contexts.now c.loop-place.place _ c.loop-place.numbers.keys c.insert.new.self.keys (omega arith)
    c.in_ok-_new.ensures.keys c.loop-place.invariant
