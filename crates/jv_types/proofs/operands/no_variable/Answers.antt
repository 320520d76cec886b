-- By `grind` at once, since a search finds nothing here.
use Rattle.std.proofs.Common.{arith}
use Rattle.jv_types.proofs.Seen.{seen}
use Rattle.jv_types.proofs.operands.no_variable.Goals as goal

pub returns-else-is_variable : goal.returns-else-is_variable
returns-else-is_variable c = grind (arith, seen)

pub returns-in_default : goal.returns-in_default
returns-in_default c = grind (arith, seen)
