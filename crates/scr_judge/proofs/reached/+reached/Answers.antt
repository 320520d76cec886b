-- By `grind` at once, since a search finds nothing here.
use Rattle.std.proofs.Common.{arith}
use Rattle.scr_judge.proofs.Falls.{falls_in_steps, falls_steps}
use Rattle.scr_judge.proofs.reached.+reached.Goals as goal

pub unreachable_all-loop-statement-preserved : goal.unreachable_all-loop-statement-preserved
unreachable_all-loop-statement-preserved t c = grind (arith, falls_steps)

pub unreachable_in-loop-branch-preserved : goal.unreachable_in-loop-branch-preserved
unreachable_in-loop-branch-preserved t c = grind (arith, falls_in_steps)
