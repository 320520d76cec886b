use Rattle.jv_names.proofs.Sound as laws
use Rattle.jv_names.proofs.types_are_enough.Goals as goal

pub returns : goal.returns
returns c = laws.types_are_enough
