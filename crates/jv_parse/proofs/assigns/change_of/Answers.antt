-- By `grind` at once, which is shorter than a search.
use Rattle.std.proofs.Common.{arith}
use Rattle.jv_tree.proofs.ViewLaws.{views}
use Rattle.jv_grammar.specs.Stmts.{change_at}
use Rattle.jv_parse.proofs.assigns.change_of.Goals as goal

pub returns-in-Some-counter_of : goal.returns-in-Some-counter_of
unfolding change_at
returns-in-Some-counter_of c = grind (arith, views)

pub returns : goal.returns
unfolding change_at
returns c = grind (arith, views)
