-- By `grind` at once, since a search finds nothing here.
use Rattle.std.proofs.Common.{arith}
use Rattle.std.proofs.lemmas.Grind.{common_steps}
use Rattle.gen_expressions.proofs.coder.Coder.put_variable.Goals as goal

pub returns-else-is_reference : goal.returns-else-is_reference
returns-else-is_reference c = grind (arith, common_steps)

pub returns-in_ok-put_own-in-Field : goal.returns-in_ok-put_own-in-Field
returns-in_ok-put_own-in-Field c = grind (arith, common_steps)

pub returns-then-is_reference : goal.returns-then-is_reference
returns-then-is_reference c = grind (arith, common_steps)
