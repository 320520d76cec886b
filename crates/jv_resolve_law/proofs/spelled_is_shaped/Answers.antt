use Rattle.jv_resolve_law.proofs.Shaped as laws
use Rattle.jv_resolve_law.proofs.spelled_is_shaped.Goals as goal

pub returns : goal.returns
returns c = laws.spelled_is_shaped
