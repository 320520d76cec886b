-- By `grind` at once, which is shorter than a search.
use Rattle.std.proofs.Common.{arith}
use Rattle.jv_tree.proofs.ViewLaws.{views}
use Rattle.jv_parse.proofs.stmts.continue_of.Goals as goal

pub returns : goal.returns
returns c = grind (arith, views)
