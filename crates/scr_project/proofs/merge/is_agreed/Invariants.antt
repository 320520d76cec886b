use Rattle.std.proofs.Common.{◌≡◌, drop}
use Rattle.scr_tree.specs.View.{statements, bodies}
use Rattle.scr_global.specs.Projecting.{all_same}
use Rattle.scr_global.specs.Texts.{spoken, spoken_each}
use Rattle.scr_project.proofs.merge.is_agreed.Given as goal

abbrev pub invariant-loop-other : goal.invariant-loop-other
invariant-loop-other l =
    all_same (spoken l.me (statements l.first.items)) (spoken_each l.me (bodies l.others)) ≡ all_same
    (spoken l.me (statements l.first.items)) (spoken_each l.me (bodies (drop l.other-index l.others)))
