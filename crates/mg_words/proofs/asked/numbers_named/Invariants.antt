use Rattle.std.proofs.Common.{◌≡◌, ◌++◌, length, Some}
use Rattle.mg_words.specs.Words.{order_among}
use Rattle.mg_words.specs.inner.Judging.{names_in, names_left}
use Rattle.mg_words.proofs.asked.numbers_named.Given as goal

abbrev pub invariant-loop-left : goal.invariant-loop-left
invariant-loop-left l =
    l.numbers.items ++ order_among l.names (Some (names_left l.left))
    ≡ order_among l.names (Some (names_in l.word))

abbrev pub decreases-loop-left : goal.decreases-loop-left
decreases-loop-left l = length (names_left l.left)
