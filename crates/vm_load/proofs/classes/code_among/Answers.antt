-- By `grind` at once, since a search finds nothing here.
use Rattle.std.proofs.Common.{arith}
use Rattle.std.proofs.lemmas.Grind.{common_steps}
use Rattle.vm_load.proofs.classes.code_among.Goals as goal

pub loop-attribute-preserved : goal.loop-attribute-preserved
loop-attribute-preserved c = grind (arith, common_steps)

pub returns-in-loop-attribute : goal.returns-in-loop-attribute
returns-in-loop-attribute c = grind (arith, common_steps)
