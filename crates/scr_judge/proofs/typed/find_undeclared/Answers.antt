-- By `grind` at once, since a search finds nothing here.
use Rattle.std.proofs.Common.{arith}
use Rattle.scr_judge.proofs.Tables.{steps}
use Rattle.scr_judge.proofs.typed.find_undeclared.Goals as goal

pub loop-message-preserved : goal.loop-message-preserved
loop-message-preserved c = grind (arith, steps)

pub returns-in-Some : goal.returns-in-Some
returns-in-Some c = grind (arith, steps)
