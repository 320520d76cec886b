use Rattle.stm_client.proofs.FreeLabels as law
use Rattle.stm_client.proofs.laws.labels_are_free.Goals as goal

pub returns : goal.returns
returns c = law.labels_are_free
