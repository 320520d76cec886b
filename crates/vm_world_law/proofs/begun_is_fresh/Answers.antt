use Rattle.vm_world_law.proofs.Begun as begun
use Rattle.vm_world_law.proofs.begun_is_fresh.Goals as goal

pub returns : goal.returns
returns c = begun.begun_is_fresh
