use Rattle.mg_delivery.proofs.DeliveryLaws.{tells_write}
use Rattle.mg_delivery.proofs.delivery.tell.Goals as goal

pub returns-in-Write : goal.returns-in-Write
returns-in-Write g c = λ at e. tells_write c.args.action.now c.in-Write.file c.fault.result.now c.say_fault.result at _ c.in-Write.is
    c.fault.ensures (c.say_fault.ensures at e)
