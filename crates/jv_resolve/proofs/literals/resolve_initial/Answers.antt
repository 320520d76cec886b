-- By `grind` at once, which is shorter than a search.
use Rattle.std.proofs.Common.{arith}
use Rattle.jv_tree.proofs.ViewLaws.{views}
use Rattle.jv_resolve.proofs.literals.resolve_initial.Goals as goal

pub returns-in-Int : goal.returns-in-Int
returns-in-Int c = grind (arith, views)

pub returns-in-Member : goal.returns-in-Member
returns-in-Member c = grind (arith, views)

pub returns-in-Null : goal.returns-in-Null
returns-in-Null c = grind (arith, views)

pub returns-in-Truth : goal.returns-in-Truth
returns-in-Truth c = grind (arith, views)

pub returns-in_ok-quoted-in-Text : goal.returns-in_ok-quoted-in-Text
returns-in_ok-quoted-in-Text c = grind (arith, views)
