use Rattle.std.proofs.Common.{ℕ, ◌<◌, get_or}
use Rattle.cls_search.specs.Marked.{IsMarked, KeepsMarks}
use Rattle.cls_search.proofs.joins.mark_all.Given as goal

abbrev pub invariant-loop-place : goal.invariant-loop-place
invariant-loop-place l = record {
  kept : KeepsMarks l.fn.marks l.marks;
  marked : (i : ℕ) → i < l.place-index → IsMarked l.marks (get_or l.places i 0);
}
