-- By `grind` at once, which is shorter than a search.
use Rattle.std.proofs.Common.{arith}
use Rattle.jv_tree.proofs.ViewLaws.{views}
use Rattle.jv_parse.proofs.exprs.negative_of.Goals as goal

pub leaf-requires : goal.leaf-requires
leaf-requires c = grind (arith, views)

pub returns-clause-read : goal.returns-clause-read
returns-clause-read c = grind (arith, views)

pub returns-then-number-gt2147483648-clause-read : goal.returns-then-number-gt2147483648-clause-read
returns-then-number-gt2147483648-clause-read c = grind (arith, views)
