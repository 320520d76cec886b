-- By `grind` at once, since a search finds nothing here.
use Rattle.std.proofs.Common.{arith}
use Rattle.std.proofs.lemmas.Grind.{common_steps}
use Rattle.vm_load.proofs.outline.own_of.Goals as goal

pub loop-field-preserved : goal.loop-field-preserved
loop-field-preserved c = grind (arith, common_steps)

pub loop-field-preserved-then-field : goal.loop-field-preserved-then-field
loop-field-preserved-then-field c = grind (arith, common_steps)

pub returns : goal.returns
returns c = grind (arith, common_steps)
