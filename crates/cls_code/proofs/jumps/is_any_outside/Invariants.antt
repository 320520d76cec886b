use Rattle.std.proofs.Common.{◌≡◌, ℕ, List, not, pos, ◌+ℤ◌, drop}
use Rattle.std.specs.List.{list_any}
use Rattle.cls_tree.specs.Jumps.{is_start}
use Rattle.cls_code.specs.Inner.{IsMarked}
use Rattle.cls_code.proofs.jumps.is_any_outside.Given as goal

abbrev pub invariant-loop-distance : goal.invariant-loop-distance
invariant-loop-distance l =
    (starts : List ℕ) → IsMarked starts l.marks
    → list_any (λ d. not (is_start starts (pos l.place +ℤ d))) l.distances ≡ list_any (λ d. not (is_start starts (pos l.place +ℤ d)))
    (drop l.distance-index l.distances)
