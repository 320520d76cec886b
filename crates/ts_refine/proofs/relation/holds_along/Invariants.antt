use Rattle.std.proofs.Common.{◌≡◌, drop}
use Rattle.ts_refine.specs.inner.Judging.{holds}
use Rattle.ts_refine.proofs.relation.holds_along.Given as goal

abbrev pub invariant-loop-pair : goal.invariant-loop-pair
invariant-loop-pair l = holds (drop l.pair-index l.pairs) l.wanted ≡ holds l.pairs l.wanted
