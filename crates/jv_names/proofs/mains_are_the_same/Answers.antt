use Rattle.jv_names.proofs.Main as laws
use Rattle.jv_names.proofs.mains_are_the_same.Goals as goal

pub returns : goal.returns
returns c = laws.mains_are_the_same
