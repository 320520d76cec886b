use Rattle.vm_world_law.proofs.Moves.{steps_alike}
use Rattle.vm_world_law.proofs.longer_lists_do_no_harm.Goals as goal

pub returns : goal.returns
returns c = λ p r later m q q' count events n left h run. steps_alike r later p m q q' count events n left h run
