use Rattle.std.proofs.Common.{◌≡◌, ◌<◌, drop, length, map}
use Rattle.ts_tree.specs.View.{method_of}
use Rattle.ts_refine.specs.inner.Judging.{arrows_in}
use Rattle.ts_refine.specs.inner.Keeping.{found_by, gone}
use Rattle.ts_refine.proofs.search.Search.meet_all.Given as goal

abbrev pub invariant-loop-method : goal.invariant-loop-method
invariant-loop-method l = record {
  within : l.parent < length l.self;
  rest : gone (found_by l.self) l.parent (arrows_in (map method_of l.others) (map method_of (drop l.method-index l.methods))) ≡ gone
      (found_by l.initial.self) l.parent (arrows_in (map method_of l.others) (map method_of l.methods));
}
