-- By `grind` at once, since a search finds nothing here.
use Rattle.std.proofs.Common.{arith}
use Rattle.scr_judge.proofs.Tables.{steps}
use Rattle.scr_judge.proofs.typed.find_undeclared_in.Goals as goal

pub loop-name-preserved : goal.loop-name-preserved
loop-name-preserved c = grind (arith, steps)
