use Rattle.ts_tree.proofs.Marking.{Marking}
use Rattle.ts_tree.proofs.Visiting.{left}
use Rattle.ts_tree.proofs.typestate.Typestate.reachable.Given as goal

abbrev pub invariant-loop-state : goal.invariant-loop-state
invariant-loop-state l = Marking l.self l.walk

abbrev pub decreases-loop-state : goal.decreases-loop-state
decreases-loop-state l = left l.walk
