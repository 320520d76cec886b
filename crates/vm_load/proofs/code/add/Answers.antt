use Rattle.std.proofs.Common.{subst}
use Rattle.vm_model.specs.View.{instr_of}
use Rattle.vm_load.specs.Faults.{best_flaw, Judges}
use Rattle.vm_load.proofs.Codes.{right_err, wrong_err}
use Rattle.vm_load.proofs.code.add.Goals as goal

pub returns-in-Err-clause-right : goal.returns-in-Err-clause-right
returns-in-Err-clause-right c = λ wanted h. right_err c.note.result c.in-Err.fault wanted _ c.note.ensures.memory
    (subst (λ r. Judges instr_of r wanted) c.in-Err.is h)

pub returns-in-Err-clause-wrong : goal.returns-in-Err-clause-wrong
returns-in-Err-clause-wrong c = λ wanted h. wrong_err c.note.result c.in-Err.fault wanted (best_flaw c.args.best.now) _
    c.note.ensures.memory c.note.ensures.lower (subst (λ r. Judges instr_of r wanted) c.in-Err.is h)
