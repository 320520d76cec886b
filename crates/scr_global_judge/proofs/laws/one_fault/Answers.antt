use Rattle.scr_global_judge.proofs.OneFault as law
use Rattle.scr_global_judge.proofs.laws.one_fault.Goals as goal

pub returns : goal.returns
returns c = law.one_fault
