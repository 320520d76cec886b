-- By `grind` at once, which is shorter than a search.
use Rattle.std.proofs.Common.{arith}
use Rattle.jv_parse.proofs.Evaluating.{kinds}
use Rattle.jv_parse.proofs.evaluations.is_out.Goals as goal

pub returns-else-is_variable : goal.returns-else-is_variable
returns-else-is_variable c = grind (arith, kinds)

pub returns-in-Int : goal.returns-in-Int
returns-in-Int c = grind (arith, kinds)

pub returns-then-is_variable : goal.returns-then-is_variable
returns-then-is_variable c = grind (arith, kinds)
