-- By `grind` at once, which is shorter than a search.
use Rattle.std.proofs.Common.{arith}
use Rattle.jv_parse.proofs.Evaluating.{kinds}
use Rattle.jv_parse.proofs.evaluations.is_variable.Goals as goal

pub returns-in-Int : goal.returns-in-Int
returns-in-Int c = grind (arith, kinds)

pub returns-in-Name : goal.returns-in-Name
returns-in-Name c = grind (arith, kinds)
