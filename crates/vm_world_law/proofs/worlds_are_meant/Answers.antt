use Rattle.vm_world_law.proofs.Worlds as worlds
use Rattle.vm_world_law.proofs.worlds_are_meant.Goals as goal

pub returns : goal.returns
returns c = worlds.worlds_are_meant
