-- By `grind` at once, since a search finds nothing here.
use Rattle.std.proofs.Common.{arith}
use Rattle.scr_judge.proofs.SpotSteps.{sends}
use Rattle.scr_judge.proofs.starts.all_send.Goals as goal

pub loop-branch-preserved : goal.loop-branch-preserved
loop-branch-preserved c = grind (arith, sends)

pub returns-then-not-is_send : goal.returns-then-not-is_send
returns-then-not-is_send c = grind (arith, sends)
