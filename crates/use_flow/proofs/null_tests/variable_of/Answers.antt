use Rattle.std.proofs.Common.{arith}
use Rattle.use_flow.proofs.Tested.{seen}
use Rattle.use_flow.proofs.null_tests.variable_of.Goals as goal

pub returns-in-Equals : goal.returns-in-Equals
returns-in-Equals c = grind (arith, seen)

pub returns-in-Int : goal.returns-in-Int
returns-in-Int c = grind (arith, seen)

pub returns-in-Neg : goal.returns-in-Neg
returns-in-Neg c = grind (arith, seen)

pub returns-in-Null : goal.returns-in-Null
returns-in-Null c = grind (arith, seen)

pub returns-in-Protocol : goal.returns-in-Protocol
returns-in-Protocol c = grind (arith, seen)

pub returns-in-Static : goal.returns-in-Static
returns-in-Static c = grind (arith, seen)

pub returns-in-Var : goal.returns-in-Var
returns-in-Var c = grind (arith, seen)
