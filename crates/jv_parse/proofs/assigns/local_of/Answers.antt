-- By `grind` at once, which is shorter than a search.
use Rattle.std.proofs.Common.{arith}
use Rattle.jv_tree.proofs.ViewLaws.{views}
use Rattle.jv_grammar.specs.Stmts.{declared_at, local_at}
use Rattle.jv_parse.proofs.assigns.local_of.Goals as goal

pub returns : goal.returns
unfolding local_at declared_at
returns c = grind (arith, views)
