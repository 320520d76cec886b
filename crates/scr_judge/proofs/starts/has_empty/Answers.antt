-- By `grind` at once, since a search finds nothing here.
use Rattle.std.proofs.Common.{arith}
use Rattle.scr_judge.proofs.SpotSteps.{empties}
use Rattle.scr_judge.proofs.starts.has_empty.Goals as goal

pub loop-branch-preserved : goal.loop-branch-preserved
loop-branch-preserved c = grind (arith, empties)

pub returns-then-is_empty : goal.returns-then-is_empty
returns-then-is_empty c = grind (arith, empties)
