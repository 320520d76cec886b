use Rattle.vm_world_law.proofs.Alone.{kept_by}
use Rattle.vm_world_law.proofs.turns_deliver.Goals as goal

pub returns : goal.returns
returns c = λ p w fresh order. (kept_by p w fresh order).delivers
