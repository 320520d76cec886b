-- By `grind` at once, since a search finds nothing here.
use Rattle.std.proofs.Common.{arith}
use Rattle.jv_types.proofs.Seen.{seen}
use Rattle.jv_types.proofs.fields.is_int.Goals as goal

pub returns-in-Call : goal.returns-in-Call
returns-in-Call c = grind (arith, seen)

pub returns-in-Int : goal.returns-in-Int
returns-in-Int c = grind (arith, seen)

pub returns-in-Name : goal.returns-in-Name
returns-in-Name c = grind (arith, seen)

pub returns-in-Neg : goal.returns-in-Neg
returns-in-Neg c = grind (arith, seen)

pub returns-in-Truth : goal.returns-in-Truth
returns-in-Truth c = grind (arith, seen)
