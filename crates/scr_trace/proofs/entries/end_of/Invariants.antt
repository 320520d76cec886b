use Rattle.scr_trace.proofs.Ending.{Nears}
use Rattle.scr_trace.proofs.entries.end_of.Given as goal

abbrev pub invariant-along : goal.invariant-along
invariant-along l = Nears l.entries l.from l.at l.left

abbrev pub decreases-along : goal.decreases-along
decreases-along l = l.left
