-- By `grind` at once, which is shorter than a search.
use Rattle.std.proofs.Common.{arith}
use Rattle.jv_tree.proofs.ViewLaws.{views}
use Rattle.jv_parse.proofs.exprs.leaf.Goals as goal

pub returns-clause-deep : goal.returns-clause-deep
returns-clause-deep c = grind (arith, views)

pub returns-clause-read : goal.returns-clause-read
returns-clause-read c = grind (arith, views)
