use Rattle.std.proofs.lemmas.Result.{IfOk-weaker}
use Rattle.scr_tree.specs.View.{statements}
use Rattle.scr_judge.specs.inner.View.{culprit_of}
use Rattle.scr_judge.proofs.LabelWalk.{first_same}
use Rattle.scr_judge.proofs.labels.find_same_label.Goals as goal

pub returns : goal.returns
returns c = IfOk-weaker c.same_all.result _ _ (λ r e. first_same c.args.me.now (statements c.args.body.now) (culprit_of r) e)
    c.same_all.ensures
