use Rattle.use_flow.proofs.Entries.{ReachedSoFar}
use Rattle.use_flow.proofs.entered.reached_sets.Given as goal

abbrev pub invariant-loop-typestate : goal.invariant-loop-typestate
invariant-loop-typestate l = ReachedSoFar l.typestate-items l.reached.items l.typestate-index
