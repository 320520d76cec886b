use Rattle.scr_judge.proofs.OneFault as law
use Rattle.scr_judge.proofs.laws.one_fault.Goals as goal

pub returns : goal.returns
returns c = law.one_fault
