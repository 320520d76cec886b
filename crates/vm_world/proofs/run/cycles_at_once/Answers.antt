use Rattle.std.proofs.Common.{arith}
use Rattle.vm_world.proofs.Cycles.{cycles_within}
use Rattle.vm_world.proofs.run.cycles_at_once.Goals as goal

pub returns-clause-ahead : goal.returns-clause-ahead
returns-clause-ahead c = λ r.
    cycles_within c.args.order.now c.args.ahead.now c.least_ahead.result c.args.often c.min.result r c.least_ahead.ensures
    (c.requires.often r) (omega (arith, c.min.ensures))
