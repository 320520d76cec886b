use Rattle.std.proofs.Common.{◌≡◌, ◌++◌, drop}
use Rattle.use_flow.specs.inner.Holding.{AreApart}
use Rattle.use_flow.proofs.held.numbered.Given as goal

abbrev pub invariant-loop-place : goal.invariant-loop-place
invariant-loop-place l = AreApart l.contexts → l.numbers.keys ++ drop l.place l.contexts ≡ l.contexts
