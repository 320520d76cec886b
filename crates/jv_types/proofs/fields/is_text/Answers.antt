-- By `grind` at once, since a search finds nothing here.
use Rattle.std.proofs.Common.{arith}
use Rattle.jv_types.proofs.Seen.{seen}
use Rattle.jv_types.proofs.fields.is_text.Goals as goal

pub returns-in-Call : goal.returns-in-Call
returns-in-Call c = grind (arith, seen)

pub returns-in-Int : goal.returns-in-Int
returns-in-Int c = grind (arith, seen)

pub returns-in-Name : goal.returns-in-Name
returns-in-Name c = grind (arith, seen)

pub returns-in-Neg : goal.returns-in-Neg
returns-in-Neg c = grind (arith, seen)

pub returns-in-Text : goal.returns-in-Text
returns-in-Text c = grind (arith, seen)
