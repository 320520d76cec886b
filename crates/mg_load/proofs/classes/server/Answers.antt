use Rattle.mg_load.specs.Workload.{group}
use Rattle.mg_load.proofs.Steps.{numbers_more}
use Rattle.mg_load.proofs.classes.server.Goals as goal

pub loop-number-preserved : goal.loop-number-preserved
loop-number-preserved c = numbers_more group c.loop-number.number _ _ _ c.loop-number.invariant c.in_ok-push_group.ensures
