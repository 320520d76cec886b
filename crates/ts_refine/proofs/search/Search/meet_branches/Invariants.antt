use Rattle.std.proofs.Common.{◌≡◌, ◌<◌, drop, length}
use Rattle.ts_tree.specs.View.{target_of}
use Rattle.ts_refine.specs.inner.Judging.{arrows_by}
use Rattle.ts_refine.specs.inner.Keeping.{found_by, gone}
use Rattle.ts_refine.proofs.search.Search.meet_branches.Given as goal

abbrev pub invariant-loop-branch : goal.invariant-loop-branch
invariant-loop-branch l = record {
  within : l.parent < length l.self;
  counted : l.place ≡ l.branch-index;
  rest : gone (found_by l.self) l.parent (arrows_by l.method.name (target_of l.target) (drop l.branch-index l.branches)) ≡ gone
      (found_by l.initial.self) l.parent (arrows_by l.method.name (target_of l.target) l.branches);
}
