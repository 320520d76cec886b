use Rattle.stm_api.proofs.methods.method_of.Goals as goal

pub send_method-requires : goal.send_method-requires
send_method-requires c = rw c.in-Passes.is at c.requires

pub take_method-requires : goal.take_method-requires
take_method-requires c = rw c.in-Passes.is at c.requires

pub look_method-requires : goal.look_method-requires
look_method-requires c = rw c.in-Asks.is at c.requires
