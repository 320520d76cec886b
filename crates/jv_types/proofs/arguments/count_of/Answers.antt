-- By `grind` at once, since a search finds nothing here.
use Rattle.std.proofs.Common.{arith}
use Rattle.std.proofs.lemmas.Grind.{common_steps}
use Rattle.jv_types.proofs.arguments.count_of.Goals as goal

pub returns-in-Declared : goal.returns-in-Declared
returns-in-Declared c = grind (arith, common_steps)

pub returns-in-Plain : goal.returns-in-Plain
returns-in-Plain c = grind (arith, common_steps)
