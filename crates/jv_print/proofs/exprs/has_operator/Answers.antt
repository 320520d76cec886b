-- By `grind` at once, since a search finds nothing here.
use Rattle.std.proofs.Common.{arith}
use Rattle.jv_print.proofs.Laid.{laid}
use Rattle.jv_print.proofs.exprs.has_operator.Goals as goal

pub returns-in-Call : goal.returns-in-Call
returns-in-Call c = grind (arith, laid)

pub returns-in-Int : goal.returns-in-Int
returns-in-Int c = grind (arith, laid)

pub returns-in-Neg : goal.returns-in-Neg
returns-in-Neg c = grind (arith, laid)

pub returns-in-This : goal.returns-in-This
returns-in-This c = grind (arith, laid)
