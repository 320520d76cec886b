-- By `grind` at once, since a search finds nothing here.
use Rattle.std.proofs.Common.{arith}
use Rattle.std.proofs.lemmas.Grind.{common_steps}
use Rattle.vm_load.proofs.descriptor.unknown_in.Goals as goal

pub loop-ty-preserved-in_default : goal.loop-ty-preserved-in_default
loop-ty-preserved-in_default c = grind (arith, common_steps)

pub returns-then-not-is_known : goal.returns-then-not-is_known
returns-then-not-is_known c = grind (arith, common_steps)
