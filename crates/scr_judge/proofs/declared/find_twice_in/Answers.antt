use Rattle.std.proofs.Common.{ap, subst, arith}
use Rattle.mg_read.specs.First.{Judged, with_earlier}
use Rattle.scr_tree.specs.declared.written.WrittenPart.{WrittenPart as Part}
use Rattle.scr_judge.specs.inner.Listed.{ListedTwice}
use Rattle.scr_judge.specs.inner.View.{culprit_of}
use Rattle.scr_judge.proofs.Owned.{rest_start, rest_end, rest_here, rest_later}
use Rattle.scr_judge.proofs.declared.find_twice_in.Goals as goal

pub loop-part-init : goal.loop-part-init
loop-part-init c = rest_start (λ (p : Part). Judged ListedTwice (with_earlier p.roles.items)) c.args.parts.now

pub returns-in-Some : goal.returns-in-Some
returns-in-Some c =
    rest_here (λ (p : Part). Judged ListedTwice (with_earlier p.roles.items)) c.args.parts.now c.loop-part.part-index c.loop-part.invariant
    c.loop-part-test.true c.part-item.result c.part-item.is
    _ (culprit_of c.in_ok-culprit.field-0)
    (subst (λ rs. Judged ListedTwice (with_earlier rs) (culprit_of c.in_ok-culprit.field-0)) c.as_slice.ensures.items
    c.in_ok-culprit.ensures) (ap culprit_of c.in-Some.is)

pub loop-part-preserved : goal.loop-part-preserved
loop-part-preserved c =
    rest_later (λ (p : Part). Judged ListedTwice (with_earlier p.roles.items)) c.args.parts.now c.loop-part.part-index c.loop-part.invariant
    c.loop-part-test.true c.part-item.result c.part-item.is
    (culprit_of c.in_ok-culprit.field-0)
    (subst (λ rs. Judged ListedTwice (with_earlier rs) (culprit_of c.in_ok-culprit.field-0)) c.as_slice.ensures.items
    c.in_ok-culprit.ensures) (ap culprit_of c.in_default.is)

pub returns : goal.returns
returns c = rest_end (λ (p : Part). Judged ListedTwice (with_earlier p.roles.items)) c.args.parts.now c.loop-part.part-index
    c.loop-part.invariant (omega arith)
