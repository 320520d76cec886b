use Rattle.vm_world_law.proofs.Doing.{does_one}
use Rattle.vm_world_law.proofs.steps_do_one.Goals as goal

pub returns : goal.returns
returns c = does_one
