-- By `grind` at once, since a search finds nothing here.
use Rattle.std.proofs.Common.{arith}
use Rattle.stm_api.proofs.Collecting.{label_steps}
use Rattle.stm_api.proofs.doings.labels_of.Goals as goal

pub loop-branch-preserved : goal.loop-branch-preserved
loop-branch-preserved c = grind (arith, label_steps)

pub loop-branch-preserved-in_default : goal.loop-branch-preserved-in_default
loop-branch-preserved-in_default c = grind (arith, label_steps)

pub returns : goal.returns
returns c = grind (arith, label_steps)
