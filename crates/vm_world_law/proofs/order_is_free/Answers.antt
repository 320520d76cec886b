use Rattle.vm_world_law.proofs.Order as order
use Rattle.vm_world_law.proofs.order_is_free.Goals as goal

pub returns : goal.returns
returns c = order.order_is_free
