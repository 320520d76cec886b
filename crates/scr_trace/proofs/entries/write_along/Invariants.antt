use Rattle.scr_trace.proofs.Ending.{Writing}
use Rattle.scr_trace.proofs.entries.write_along.Given as goal

abbrev pub invariant-loop-left : goal.invariant-loop-left
invariant-loop-left l = Writing l.fn.entries l.entries l.from l.end l.at l.left

abbrev pub decreases-loop-left : goal.decreases-loop-left
decreases-loop-left l = l.left
