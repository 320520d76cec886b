-- By `grind` at once, since a search finds nothing here.
use Rattle.std.proofs.Common.{arith}
use Rattle.jv_types.proofs.Seen.{seen}
use Rattle.jv_types.proofs.operands.compared_misfit.Goals as goal

pub returns-else-is_variable : goal.returns-else-is_variable
returns-else-is_variable c = grind (arith, seen)

pub returns-in-NoValue : goal.returns-in-NoValue
returns-in-NoValue c = grind (arith, seen)

pub returns-in-Text : goal.returns-in-Text
returns-in-Text c = grind (arith, seen)
