-- By `grind` at once, since a search finds nothing here.
use Rattle.std.proofs.Common.{arith}
use Rattle.gen_expressions.proofs.Seen.{seen}
use Rattle.std.proofs.lemmas.Grind.{common_steps}
use Rattle.gen_expressions.proofs.coder.Coder.+expressions.Goals as goal

pub call-returns : goal.call-returns
call-returns t c = grind (arith, common_steps)

pub jump-returns-in-Add : goal.jump-returns-in-Add
jump-returns-in-Add t c = grind (arith, seen)

pub jump-returns-in-Int : goal.jump-returns-in-Int
jump-returns-in-Int t c = grind (arith, seen)

pub jump-returns-in-Lt : goal.jump-returns-in-Lt
jump-returns-in-Lt t c = grind (arith, seen)

pub jump-returns-in-Not : goal.jump-returns-in-Not
jump-returns-in-Not t c = grind (arith, seen)

pub jump-returns-in-Or : goal.jump-returns-in-Or
jump-returns-in-Or t c = grind (arith, seen)

pub jump-returns-in-Truth : goal.jump-returns-in-Truth
jump-returns-in-Truth t c = grind (arith, seen)

pub jump_test-returns-in-Add : goal.jump_test-returns-in-Add
jump_test-returns-in-Add t c = grind (arith, common_steps)

pub jump_test-returns-in-Eq : goal.jump_test-returns-in-Eq
jump_test-returns-in-Eq t c = grind (arith, common_steps)

pub jump_value-returns : goal.jump_value-returns
jump_value-returns t c = grind (arith, common_steps)

pub jump_value-returns-then-holds : goal.jump_value-returns-then-holds
jump_value-returns-then-holds t c = grind (arith, common_steps)

pub truth_of_test-returns : goal.truth_of_test-returns
truth_of_test-returns t c = grind (arith, common_steps)

pub value-returns-in-Add : goal.value-returns-in-Add
value-returns-in-Add t c = grind (arith, seen)

pub value-returns-in-Concat : goal.value-returns-in-Concat
value-returns-in-Concat t c = grind (arith, seen)

pub value-returns-in-Constant : goal.value-returns-in-Constant
value-returns-in-Constant t c = grind (arith, seen)

pub value-returns-in-Div : goal.value-returns-in-Div
value-returns-in-Div t c = grind (arith, seen)

pub value-returns-in-Equals : goal.value-returns-in-Equals
value-returns-in-Equals t c = grind (arith, seen)

pub value-returns-in-Int : goal.value-returns-in-Int
value-returns-in-Int t c = grind (arith, seen)

pub value-returns-in-Lt : goal.value-returns-in-Lt
value-returns-in-Lt t c = grind (arith, seen)

pub value-returns-in-Mul : goal.value-returns-in-Mul
value-returns-in-Mul t c = grind (arith, seen)

pub value-returns-in-New : goal.value-returns-in-New
value-returns-in-New t c = grind (arith, seen)

pub value-returns-in-Not : goal.value-returns-in-Not
value-returns-in-Not t c = grind (arith, seen)

pub value-returns-in-Null : goal.value-returns-in-Null
value-returns-in-Null t c = grind (arith, seen)

pub value-returns-in-Or : goal.value-returns-in-Or
value-returns-in-Or t c = grind (arith, seen)

pub value-returns-in-Rem : goal.value-returns-in-Rem
value-returns-in-Rem t c = grind (arith, seen)

pub value-returns-in-Session : goal.value-returns-in-Session
value-returns-in-Session t c = grind (arith, seen)

pub value-returns-in-Static : goal.value-returns-in-Static
value-returns-in-Static t c = grind (arith, seen)

pub value-returns-in-Sub : goal.value-returns-in-Sub
value-returns-in-Sub t c = grind (arith, seen)

pub value-returns-in-Text : goal.value-returns-in-Text
value-returns-in-Text t c = grind (arith, seen)

pub value-returns-in-Truth : goal.value-returns-in-Truth
value-returns-in-Truth t c = grind (arith, seen)

pub value-returns-in-Var : goal.value-returns-in-Var
value-returns-in-Var t c = grind (arith, seen)

pub value-returns-in_ok-put_own-in-Helper : goal.value-returns-in_ok-put_own-in-Helper
value-returns-in_ok-put_own-in-Helper t c = grind (arith, seen)

pub value-returns-in_ok-put_variable-in-Protocol : goal.value-returns-in_ok-put_variable-in-Protocol
value-returns-in_ok-put_variable-in-Protocol t c = grind (arith, seen)

pub value-returns-in_ok-value-in-Neg : goal.value-returns-in_ok-value-in-Neg
value-returns-in_ok-value-in-Neg t c = grind (arith, seen)
