-- By `grind` at once, since a search finds nothing here.
use Rattle.std.proofs.Common.{arith}
use Rattle.stm_api.proofs.Trees.{test_steps}
use Rattle.stm_api.proofs.bodies.add_tests.Goals as goal

pub loop-label-preserved : goal.loop-label-preserved
loop-label-preserved c = grind (arith, test_steps)

pub returns : goal.returns
returns c = grind (arith, test_steps)
