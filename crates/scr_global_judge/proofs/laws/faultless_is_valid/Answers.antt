use Rattle.scr_global_judge.proofs.Faultless as law
use Rattle.scr_global_judge.proofs.laws.faultless_is_valid.Goals as goal

pub returns : goal.returns
returns c = law.faultless
