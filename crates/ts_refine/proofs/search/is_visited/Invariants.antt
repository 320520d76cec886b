use Rattle.std.proofs.Common.{◌≡◌, drop, map}
use Rattle.ts_refine.specs.inner.Judging.{holds}
use Rattle.ts_refine.proofs.search.is_visited.Given as goal

abbrev pub invariant-loop-visit : goal.invariant-loop-visit
invariant-loop-visit l = holds (map (λ v. v.pair) (drop l.visit-index l.visits)) l.wanted ≡ holds (map (λ v. v.pair) l.visits) l.wanted
