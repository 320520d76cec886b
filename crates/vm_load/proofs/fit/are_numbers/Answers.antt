-- By `grind` at once, since a search finds nothing here.
use Rattle.std.proofs.Common.{arith}
use Rattle.std.proofs.lemmas.Grind.{common_steps}
use Rattle.vm_load.proofs.fit.are_numbers.Goals as goal

pub loop-target-preserved : goal.loop-target-preserved
loop-target-preserved c = grind (arith, common_steps)

pub returns : goal.returns
returns c = grind (arith, common_steps)

pub returns-then-not-is_number : goal.returns-then-not-is_number
returns-then-not-is_number c = grind (arith, common_steps)
