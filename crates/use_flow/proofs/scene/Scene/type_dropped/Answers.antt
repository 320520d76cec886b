use Rattle.std.proofs.Common.{arith}
use Rattle.use_flow.proofs.Tested.{seen}
use Rattle.use_flow.proofs.scene.Scene.type_dropped.Goals as goal

pub returns-in-Binary : goal.returns-in-Binary
returns-in-Binary c = grind (arith, seen)

pub returns-in-Constant : goal.returns-in-Constant
returns-in-Constant c = grind (arith, seen)

pub returns-in-Equals : goal.returns-in-Equals
returns-in-Equals c = grind (arith, seen)

pub returns-in-Helper : goal.returns-in-Helper
returns-in-Helper c = grind (arith, seen)

pub returns-in-Int : goal.returns-in-Int
returns-in-Int c = grind (arith, seen)

pub returns-in-New : goal.returns-in-New
returns-in-New c = grind (arith, seen)

pub returns-in-Null : goal.returns-in-Null
returns-in-Null c = grind (arith, seen)

pub returns-in-Protocol : goal.returns-in-Protocol
returns-in-Protocol c = grind (arith, seen)

pub returns-in-Static : goal.returns-in-Static
returns-in-Static c = grind (arith, seen)

pub returns-in-Var : goal.returns-in-Var
returns-in-Var c = grind (arith, seen)
