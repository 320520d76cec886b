use Rattle.std.proofs.Common.{◌-◌}
use Rattle.scr_trace.proofs.Ending.{Settling}
use Rattle.scr_trace.proofs.entries.settle.Given as goal

abbrev pub invariant-loop-i : goal.invariant-loop-i
invariant-loop-i l = Settling l.fn.entries l.entries l.i

abbrev pub decreases-loop-i : goal.decreases-loop-i
decreases-loop-i l = l.count - l.i
