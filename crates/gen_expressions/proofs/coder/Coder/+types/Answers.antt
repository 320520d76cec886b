-- By `grind` at once, since a search finds nothing here.
use Rattle.std.proofs.Common.{arith}
use Rattle.gen_expressions.proofs.Seen.{seen}
use Rattle.gen_expressions.proofs.coder.Coder.+types.Goals as goal

pub type_of-returns-in-Binary : goal.type_of-returns-in-Binary
type_of-returns-in-Binary t c = grind (arith, seen)

pub type_of-returns-in-Concat : goal.type_of-returns-in-Concat
type_of-returns-in-Concat t c = grind (arith, seen)

pub type_of-returns-in-Constant : goal.type_of-returns-in-Constant
type_of-returns-in-Constant t c = grind (arith, seen)

pub type_of-returns-in-Equals : goal.type_of-returns-in-Equals
type_of-returns-in-Equals t c = grind (arith, seen)

pub type_of-returns-in-Helper : goal.type_of-returns-in-Helper
type_of-returns-in-Helper t c = grind (arith, seen)

pub type_of-returns-in-Int : goal.type_of-returns-in-Int
type_of-returns-in-Int t c = grind (arith, seen)

pub type_of-returns-in-Neg : goal.type_of-returns-in-Neg
type_of-returns-in-Neg t c = grind (arith, seen)

pub type_of-returns-in-New : goal.type_of-returns-in-New
type_of-returns-in-New t c = grind (arith, seen)

pub type_of-returns-in-Not : goal.type_of-returns-in-Not
type_of-returns-in-Not t c = grind (arith, seen)

pub type_of-returns-in-Null : goal.type_of-returns-in-Null
type_of-returns-in-Null t c = grind (arith, seen)

pub type_of-returns-in-Protocol : goal.type_of-returns-in-Protocol
type_of-returns-in-Protocol t c = grind (arith, seen)

pub type_of-returns-in-Session : goal.type_of-returns-in-Session
type_of-returns-in-Session t c = grind (arith, seen)

pub type_of-returns-in-Static : goal.type_of-returns-in-Static
type_of-returns-in-Static t c = grind (arith, seen)

pub type_of-returns-in-Text : goal.type_of-returns-in-Text
type_of-returns-in-Text t c = grind (arith, seen)

pub type_of-returns-in-Truth : goal.type_of-returns-in-Truth
type_of-returns-in-Truth t c = grind (arith, seen)

pub type_of-returns-in-Var : goal.type_of-returns-in-Var
type_of-returns-in-Var t c = grind (arith, seen)
