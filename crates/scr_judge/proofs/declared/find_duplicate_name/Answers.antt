use Rattle.std.proofs.Common.{subst}
use Rattle.std.proofs.lemmas.Result.{IfOk-weaker}
use Rattle.mg_read.specs.First.{Judged, with_earlier}
use Rattle.scr_judge.specs.inner.Listed.{DeclaredTwice}
use Rattle.scr_judge.specs.inner.View.{culprit_of}
use Rattle.scr_judge.proofs.Earlier.{duplicate_name, duplicate_declaration}
use Rattle.scr_judge.proofs.declared.find_duplicate_name.Goals as goal

pub returns-in-Some : goal.returns-in-Some
returns-in-Some c =
    duplicate_declaration c.args.types.now c.args.roles.now _
    (subst (λ o. Judged DeclaredTwice (with_earlier c.args.types.now) (culprit_of o)) c.in-Some.is c.in_ok-culprit.ensures)

pub returns-in-None : goal.returns-in-None
returns-in-None c =
    IfOk-weaker c.find_listed_twice.result _ _ (λ r j. duplicate_name c.args.types.now c.args.roles.now
    (subst (λ o. Judged DeclaredTwice (with_earlier c.args.types.now) (culprit_of o)) c.in-None.is c.in_ok-culprit.ensures) j)
    c.find_listed_twice.ensures
