-- By `grind` at once, since a search finds nothing here.
use Rattle.std.proofs.Common.{arith}
use Rattle.stm_gen.proofs.Making.{method_steps}
use Rattle.stm_gen.proofs.methods.message_methods.Goals as goal

pub loop-i-init : goal.loop-i-init
loop-i-init c = grind (arith, method_steps)

pub loop-i-preserved : goal.loop-i-preserved
loop-i-preserved c = grind (arith, method_steps)
