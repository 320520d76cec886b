use Rattle.std.proofs.Common.{subst}
use Rattle.vm_load.specs.Faults.{Tells, best_flaw}
use Rattle.vm_load.proofs.ClassLaws.{noted_none, noted_told}
use Rattle.vm_load.proofs.fault.note_told.Goals as goal

pub returns-in-Ok : goal.returns-in-Ok
returns-in-Ok c = λ wanted h. noted_none (best_flaw c.args.best.now) wanted (subst (λ r. Tells r wanted) c.in-Ok.is h)

pub returns-in-Err : goal.returns-in-Err
returns-in-Err c = λ wanted h.
    noted_told c.note.result c.in-Err.fault (best_flaw c.args.best.now) _ wanted (subst (λ r. Tells r wanted) c.in-Err.is h)
    c.note.ensures.lower c.note.ensures.memory
