use Rattle.vm_world_law.proofs.Order as order
use Rattle.vm_world_law.proofs.orders_agree.Goals as goal

pub returns : goal.returns
returns c = order.orders_agree
