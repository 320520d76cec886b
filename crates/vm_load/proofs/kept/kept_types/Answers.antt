-- By `grind` at once, since a search finds nothing here.
use Rattle.std.proofs.Common.{arith}
use Rattle.std.proofs.lemmas.Grind.{common_steps}
use Rattle.vm_load.proofs.kept.kept_types.Goals as goal

pub loop-field_type-preserved : goal.loop-field_type-preserved
loop-field_type-preserved c = grind (arith, common_steps)

pub returns : goal.returns
returns c = grind (arith, common_steps)
