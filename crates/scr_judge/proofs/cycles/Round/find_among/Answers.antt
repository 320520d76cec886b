use Rattle.std.proofs.Common.{ap, subst, sym, arith, Contains}
use Rattle.std.proofs.lemmas.List.Elements.{Contains-get_or}
use Rattle.scr_judge.specs.inner.Round.{IsGuarded}
use Rattle.scr_judge.specs.inner.View.{culprit_of}
use Rattle.scr_judge.proofs.Owned.{rest_start, rest_end, rest_here, rest_later}
use Rattle.scr_judge.proofs.cycles.Round.find_among.Goals as goal

pub loop-part-init : goal.loop-part-init
loop-part-init c = λ ps h all. rest_start (IsGuarded ps) c.args.parts.now

pub returns-in-Some : goal.returns-in-Some
returns-in-Some c = λ ps h all.
    rest_here (IsGuarded ps) c.args.parts.now c.loop-part.part-index (c.loop-part.invariant ps h all) c.loop-part-test.true
    c.part-item.result c.part-item.is
    _ (culprit_of c.in_ok-culprit.field-0)
    (c.in_ok-culprit.ensures ps h (all c.part-item.result (subst (Contains c.args.parts.now) (sym c.part-item.is)
    (Contains-get_or c.args.parts.now c.loop-part.part-index c.part-item.result c.loop-part-test.true))))
    (ap culprit_of c.in-Some.is)

pub loop-part-preserved : goal.loop-part-preserved
loop-part-preserved c = λ ps h all.
    rest_later (IsGuarded ps) c.args.parts.now c.loop-part.part-index (c.loop-part.invariant ps h all) c.loop-part-test.true
    c.part-item.result c.part-item.is
    (culprit_of c.in_ok-culprit.field-0)
    (c.in_ok-culprit.ensures ps h (all c.part-item.result (subst (Contains c.args.parts.now) (sym c.part-item.is)
    (Contains-get_or c.args.parts.now c.loop-part.part-index c.part-item.result c.loop-part-test.true))))
    (ap culprit_of c.in_default.is)

pub returns : goal.returns
returns c = λ ps h all. rest_end (IsGuarded ps) c.args.parts.now c.loop-part.part-index (c.loop-part.invariant ps h all) (omega arith)
