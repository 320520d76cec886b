use Rattle.std.proofs.Common.{◌≡◌, ◌<◌, ◌++◌, length, map}
use Rattle.std.specs.Prelude.{reverse}
use Rattle.ts_refine.specs.Verdicts.{call_of}
use Rattle.ts_refine.specs.inner.Keeping.{found_by, calls_at}
use Rattle.ts_refine.proofs.search.Search.path.Given as goal

abbrev pub invariant-loop-at : goal.invariant-loop-at
invariant-loop-at l = record {
  within : l.at < length l.self;
  rest : calls_at (found_by l.self) l.at ++ map call_of (reverse l.calls.items) ≡ calls_at (found_by l.self) l.end;
}

abbrev pub decreases-loop-at : goal.decreases-loop-at
decreases-loop-at l = l.at
