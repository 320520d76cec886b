-- By `grind` at once, which is shorter than a search.
use Rattle.std.proofs.Common.{arith}
use Rattle.jv_tree.proofs.ViewLaws.{views}
use Rattle.jv_grammar.specs.Stmts.{target_at}
use Rattle.jv_parse.proofs.assigns.target_of.Goals as goal

pub leaf-requires : goal.leaf-requires
unfolding target_at
leaf-requires c = grind (arith, views)

pub returns-clause-read : goal.returns-clause-read
unfolding target_at
returns-clause-read c = grind (arith, views)

pub returns-in-Some-clause-deep : goal.returns-in-Some-clause-deep
unfolding target_at
returns-in-Some-clause-deep c = grind (arith, views)

pub returns-in-Some-clause-read : goal.returns-in-Some-clause-read
unfolding target_at
returns-in-Some-clause-read c = grind (arith, views)
