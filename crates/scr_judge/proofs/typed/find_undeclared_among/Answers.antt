-- By `grind` at once, since a search finds nothing here.
use Rattle.std.proofs.Common.{arith}
use Rattle.scr_judge.proofs.Tables.{steps}
use Rattle.scr_judge.proofs.typed.find_undeclared_among.Goals as goal

pub loop-part-preserved : goal.loop-part-preserved
loop-part-preserved c = grind (arith, steps)

pub returns-in-Some : goal.returns-in-Some
returns-in-Some c = grind (arith, steps)
