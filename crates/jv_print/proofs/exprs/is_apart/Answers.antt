-- By `grind` at once, since a search finds nothing here.
use Rattle.std.proofs.Common.{arith}
use Rattle.jv_print.proofs.Laid.{laid}
use Rattle.jv_print.proofs.exprs.is_apart.Goals as goal

pub returns-in-Binary : goal.returns-in-Binary
returns-in-Binary c = grind (arith, laid)

pub returns-in-Int : goal.returns-in-Int
returns-in-Int c = grind (arith, laid)

pub returns-in-MethodCall : goal.returns-in-MethodCall
returns-in-MethodCall c = grind (arith, laid)

pub returns-in-Name : goal.returns-in-Name
returns-in-Name c = grind (arith, laid)

pub returns-in-Truth : goal.returns-in-Truth
returns-in-Truth c = grind (arith, laid)
