use Rattle.std.proofs.Common.{subst}
use Rattle.vm_model.specs.Program.{Program}
use Rattle.vm_model.specs.View.{classes_of}
use Rattle.cls_search.specs.Verified.{FirstAt, FirstOrAll, Says}
use Rattle.cls_search.proofs.Searched.{fault_named}
use Rattle.cls_search.proofs.program.verify.Goals as goal

pub returns-clause-err : goal.returns-clause-err
returns-clause-err c =
    let cs = c.classes-classes.result.now in
    let place = c.in-Some.place in
    let first : FirstAt (classes_of cs) place.class place.method = subst (FirstOrAll (classes_of cs)) c.in-Some.is c.in_ok-first.ensures in
    subst (λ (p : Program). Says p c.in_ok-fault.fault) c.classes-classes.ensures.classes
    (fault_named cs place.class place.method c.index-classes-place.result c.in_ok-fault.fault c.index-classes-place.is first
    c.in_ok-fault.ensures)
