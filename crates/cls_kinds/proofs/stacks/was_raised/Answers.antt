use Rattle.std.proofs.Common.{arith}
use Rattle.cls_kinds.proofs.Stacking.{noted_at}
use Rattle.cls_kinds.proofs.stacks.was_raised.Goals as goal

pub returns-then-number-second : goal.returns-then-number-second
returns-then-number-second c = λ stacks noted.
    noted_at stacks c.args.raised.now c.args.first c.args.second c.in-Some.number.now _ noted
    (omega (arith, c.if-first-eq0.false)) (omega (arith, c.if-second-eq0.false))
    c.in-Some.ensures.lookup.0 c.in-Some.ensures.lookup.1 c.if-number-second.true
