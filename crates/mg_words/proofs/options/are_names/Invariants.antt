use Rattle.std.proofs.Common.{All, length}
use Rattle.scr_tree.specs.Words.{IsName}
use Rattle.mg_words.specs.inner.Judging.{names_in, names_left}
use Rattle.mg_words.proofs.options.are_names.Given as goal

abbrev pub invariant-loop-left : goal.invariant-loop-left
invariant-loop-left l =
    (All IsName (names_in l.word) → All IsName (names_left l.left))
    × (All IsName (names_left l.left) → All IsName (names_in l.word))

abbrev pub decreases-loop-left : goal.decreases-loop-left
decreases-loop-left l = length (names_left l.left)
