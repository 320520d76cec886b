use Rattle.std.proofs.Common.{ap, subst, Contains}
use Rattle.std.proofs.lemmas.Result.{IfOk-weaker}
use Rattle.scr_judge.specs.inner.Own.{FirstIn, all_parts}
use Rattle.scr_judge.specs.inner.Round.{IsGuarded}
use Rattle.scr_judge.specs.inner.View.{culprit_of}
use Rattle.scr_judge.proofs.Guarded.{guarded_here, guarded_behind}
use Rattle.scr_judge.proofs.Members.{Contains-first, Contains-later}
use Rattle.scr_judge.proofs.cycles.find_unguarded_in_file.Goals as goal

pub returns-in-Some : goal.returns-in-Some
returns-in-Some c =
    guarded_here c.args.written.now _ (subst (IsGuarded (all_parts c.args.written.now) c.args.written.now.first)
    (ap culprit_of c.in-Some.is)
    (c.in_ok-culprit.ensures (all_parts c.args.written.now) c.in_ok-round.ensures
    (Contains-first c.args.written.now.others.items c.args.written.now.first)))

pub returns : goal.returns
returns c =
    IfOk-weaker c.find_among.result _ _
    (λ r f. guarded_behind c.args.written.now (culprit_of r)
    (subst (IsGuarded (all_parts c.args.written.now) c.args.written.now.first) (ap culprit_of c.in-None.is)
    (c.in_ok-culprit.ensures (all_parts c.args.written.now) c.in_ok-round.ensures
    (Contains-first c.args.written.now.others.items c.args.written.now.first)))
    (subst (λ ps. FirstIn (IsGuarded (all_parts c.args.written.now)) ps (culprit_of r)) c.as_slice.ensures.items
    (f (all_parts c.args.written.now) c.in_ok-round.ensures
    (λ p h. Contains-later c.args.written.now.others.items c.args.written.now.first p
    (subst (λ ps. Contains ps p) c.as_slice.ensures.items h)))))
    c.find_among.ensures
