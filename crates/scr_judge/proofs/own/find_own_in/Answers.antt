use Rattle.std.proofs.Common.{ap, arith}
use Rattle.scr_tree.specs.Written.{part_written}
use Rattle.scr_judge.specs.inner.Own.{OfOwn}
use Rattle.scr_judge.specs.inner.View.{named_of}
use Rattle.scr_judge.proofs.Owned.{rest_start, rest_end, rest_here, rest_later}
use Rattle.scr_judge.proofs.own.find_own_in.Goals as goal

pub loop-part-init : goal.loop-part-init
loop-part-init c = rest_start (λ p. OfOwn c.args.condition (part_written p)) c.args.parts.now

pub returns-in-Some : goal.returns-in-Some
returns-in-Some c =
    rest_here (λ p. OfOwn c.args.condition (part_written p)) c.args.parts.now c.loop-part.part-index c.loop-part.invariant c.loop-part-test.true
    c.part-item.result c.part-item.is
    _ (named_of c.in_ok-found.field-0) c.in_ok-found.ensures (ap named_of c.in-Some.is)

pub loop-part-preserved : goal.loop-part-preserved
loop-part-preserved c =
    rest_later (λ p. OfOwn c.args.condition (part_written p)) c.args.parts.now c.loop-part.part-index c.loop-part.invariant c.loop-part-test.true
    c.part-item.result c.part-item.is
    (named_of c.in_ok-found.field-0) c.in_ok-found.ensures (ap named_of c.in_default.is)

pub returns : goal.returns
returns c = rest_end (λ p. OfOwn c.args.condition (part_written p)) c.args.parts.now c.loop-part.part-index c.loop-part.invariant (omega arith)
