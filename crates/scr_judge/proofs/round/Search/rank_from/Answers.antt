-- By `grind` at once, since a search finds nothing here.
use Rattle.std.proofs.Common.{arith}
use Rattle.std.proofs.lemmas.Grind.{common_steps}
use Rattle.scr_judge.proofs.round.Search.rank_from.Goals as goal

pub open-preserved : goal.open-preserved
open-preserved c = grind (arith, common_steps)

pub returns-then-other-node : goal.returns-then-other-node
returns-then-other-node c = grind (arith, common_steps)
