use Rattle.vm_step.proofs.Mains.{has_main_is, has_none}
use Rattle.vm_step.proofs.machine.has_main.Goals as goal

pub returns-in-Some : goal.returns-in-Some
returns-in-Some c =
    rw c.is_some.ensures (has_main_is c.args.linked.now c.args.main.now c.in-Some.class c.main_in.result
    c.in-Some.ensures c.main_in.ensures)

pub returns-in-None : goal.returns-in-None
returns-in-None c = has_none c.args.linked.now c.args.main.now c.in-None.ensures
