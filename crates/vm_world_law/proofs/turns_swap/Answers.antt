use Rattle.vm_world_law.proofs.Swap as swap
use Rattle.vm_world_law.proofs.turns_swap.Goals as goal

pub returns : goal.returns
returns c = swap.turns_swap
