-- By `grind` at once, since a search finds nothing here.
use Rattle.std.proofs.Common.{arith}
use Rattle.std.proofs.lemmas.Grind.{common_steps}
use Rattle.scr_judge.proofs.cycles.no_edges.Goals as goal

pub loop-preserved : goal.loop-preserved
loop-preserved c = grind (arith, common_steps)
