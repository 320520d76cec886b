-- By `grind` at once, since a search finds nothing here.
use Rattle.std.proofs.Common.{arith}
use Rattle.stm_api.proofs.Trees.{views}
use Rattle.stm_api.proofs.exprs.call_on.Goals as goal

pub returns : goal.returns
returns c = grind (arith, views)
