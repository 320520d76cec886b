use Rattle.vm_world_law.proofs.Stopping as stopping
use Rattle.vm_world_law.proofs.turns_count.Goals as goal

pub returns : goal.returns
returns c = stopping.turns_count
