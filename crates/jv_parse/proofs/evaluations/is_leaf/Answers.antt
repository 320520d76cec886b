-- By `grind` at once, which is shorter than a search.
use Rattle.std.proofs.Common.{arith}
use Rattle.jv_parse.proofs.Evaluating.{kinds}
use Rattle.jv_parse.proofs.evaluations.is_leaf.Goals as goal

pub returns-in-Call : goal.returns-in-Call
returns-in-Call c = grind (arith, kinds)

pub returns-in-Int : goal.returns-in-Int
returns-in-Int c = grind (arith, kinds)

pub returns-in-Member : goal.returns-in-Member
returns-in-Member c = grind (arith, kinds)
