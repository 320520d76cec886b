-- By `grind` at once, since a search finds nothing here.
use Rattle.std.proofs.Common.{arith}
use Rattle.stm_gen.proofs.Making.{branch_steps}
use Rattle.stm_gen.proofs.methods.branches_of.Goals as goal

pub loop-i-init : goal.loop-i-init
loop-i-init c = grind (arith, branch_steps)

pub loop-i-preserved : goal.loop-i-preserved
loop-i-preserved c = grind (arith, branch_steps)
