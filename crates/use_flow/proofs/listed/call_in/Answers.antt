use Rattle.std.proofs.Common.{arith}
use Rattle.jv_core.proofs.ViewLaws.{views}
use Rattle.use_flow.proofs.listed.call_in.Goals as goal

pub returns-in-Binary : goal.returns-in-Binary
returns-in-Binary c = grind (arith, views)

pub returns-in-Constant : goal.returns-in-Constant
returns-in-Constant c = grind (arith, views)

pub returns-in-Equals : goal.returns-in-Equals
returns-in-Equals c = grind (arith, views)

pub returns-in-Int : goal.returns-in-Int
returns-in-Int c = grind (arith, views)

pub returns-in-Null : goal.returns-in-Null
returns-in-Null c = grind (arith, views)

pub returns-in-Protocol : goal.returns-in-Protocol
returns-in-Protocol c = grind (arith, views)

pub returns-in-Static : goal.returns-in-Static
returns-in-Static c = grind (arith, views)
