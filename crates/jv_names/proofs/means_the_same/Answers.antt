use Rattle.jv_names.proofs.Main as laws
use Rattle.jv_names.proofs.means_the_same.Goals as goal

pub returns : goal.returns
returns c = laws.means_the_same
