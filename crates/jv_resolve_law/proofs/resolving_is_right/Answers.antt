use Rattle.jv_resolve_law.proofs.Whole as laws
use Rattle.jv_resolve_law.proofs.resolving_is_right.Goals as goal

pub returns : goal.returns
returns c = laws.resolving_is_right
