use Rattle.use_flow.specs.inner.Holding.{AreHeld}
use Rattle.use_flow.proofs.held.filled.Given as goal

abbrev pub invariant-loop-place : goal.invariant-loop-place
invariant-loop-place l = AreHeld l.core l.entries l.place l.keys.keys l.sets.items
