use Rattle.jv_names.proofs.Kept as laws
use Rattle.jv_names.proofs.core_is_kept.Goals as goal

pub returns : goal.returns
returns c = laws.core_is_kept
