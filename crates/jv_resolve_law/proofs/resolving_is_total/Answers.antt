use Rattle.jv_resolve_law.proofs.TotalWhole as laws
use Rattle.jv_resolve_law.proofs.resolving_is_total.Goals as goal

pub returns : goal.returns
returns c = laws.resolving_is_total
