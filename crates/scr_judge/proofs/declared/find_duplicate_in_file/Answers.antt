use Rattle.std.proofs.Common.{ap}
use Rattle.std.proofs.lemmas.Result.{IfOk-weaker}
use Rattle.scr_judge.specs.inner.View.{culprit_of}
use Rattle.scr_judge.proofs.Files.{duplicate_here, duplicate_behind}
use Rattle.scr_judge.proofs.declared.find_duplicate_in_file.Goals as goal

pub returns-in-Some : goal.returns-in-Some
returns-in-Some c =
    duplicate_here c.args.written.now _ _ (culprit_of c.in_ok-culprit.field-0) c.as_slice-types.ensures.items c.as_slice.ensures.items
    c.in_ok-culprit.ensures
    _ (ap culprit_of c.in-Some.is)

pub returns-in-None : goal.returns-in-None
returns-in-None c =
    IfOk-weaker c.find_twice_in.result _ _
    (λ r f. duplicate_behind c.args.written.now _ _ (culprit_of c.in_ok-culprit.field-0) c.as_slice-types.ensures.items
    c.as_slice.ensures.items c.in_ok-culprit.ensures
    _ (culprit_of r) (ap culprit_of c.in-None.is) c.as_slice-in-None.ensures.items f) c.find_twice_in.ensures
