use Rattle.jv_names.proofs.Completing as laws
use Rattle.jv_names.proofs.completes_alike.Goals as goal

pub returns : goal.returns
returns c = laws.completes_alike
