-- By `grind` at once, since a search finds nothing here.
use Rattle.std.proofs.Common.{arith}
use Rattle.jv_types.proofs.Seen.{seen}
use Rattle.jv_types.proofs.fields.is_constant_named.Goals as goal

pub returns-in-Binary : goal.returns-in-Binary
returns-in-Binary c = grind (arith, seen)

pub returns-in-Int : goal.returns-in-Int
returns-in-Int c = grind (arith, seen)

pub returns-in-Member : goal.returns-in-Member
returns-in-Member c = grind (arith, seen)

pub returns-in-MethodCall : goal.returns-in-MethodCall
returns-in-MethodCall c = grind (arith, seen)

pub returns-in-Null : goal.returns-in-Null
returns-in-Null c = grind (arith, seen)

pub returns-in-This : goal.returns-in-This
returns-in-This c = grind (arith, seen)
