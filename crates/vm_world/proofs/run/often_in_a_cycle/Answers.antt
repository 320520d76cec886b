use Rattle.vm_world.proofs.Cycles.{named_long, named_often}
use Rattle.vm_world.proofs.run.often_in_a_cycle.Goals as goal

pub overflow_sub-result : goal.overflow_sub-result
overflow_sub-result c = named_long c.args.roles c.args.order.now c.requires.named

pub returns-clause-often : goal.returns-clause-often
returns-clause-often c = λ r. named_often c.args.roles r c.args.order.now c.requires.named
