use Rattle.std.proofs.Common.{ap, subst}
use Rattle.std.proofs.lemmas.Result.{IfOk-weaker}
use Rattle.scr_tree.specs.Written.{part_written}
use Rattle.scr_judge.specs.inner.Own.{OfOwn, FirstIn, here, later}
use Rattle.scr_judge.specs.inner.View.{named_of}
use Rattle.scr_judge.proofs.own.find_own.Goals as goal

pub returns-in-Some : goal.returns-in-Some
returns-in-Some c = here (subst (OfOwn c.args.condition (part_written c.args.written.now.first)) (ap named_of c.in-Some.is) c.in_ok-found.ensures)

pub returns-in-None : goal.returns-in-None
returns-in-None c =
    IfOk-weaker c.find_own_in.result _ _
    (λ n f. later (subst (OfOwn c.args.condition (part_written c.args.written.now.first)) (ap named_of c.in-None.is) c.in_ok-found.ensures)
    (subst (λ ps. FirstIn (λ p. OfOwn c.args.condition (part_written p)) ps (named_of n)) c.as_slice.ensures.items f)) c.find_own_in.ensures
