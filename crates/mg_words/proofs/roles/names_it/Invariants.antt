use Rattle.std.proofs.Common.{◌≡◌, length}
use Rattle.mg_words.specs.inner.Judging.{names_in, names_left, has_name}
use Rattle.mg_words.proofs.roles.names_it.Given as goal

abbrev pub invariant-loop-left : goal.invariant-loop-left
invariant-loop-left l = has_name (names_in l.word) l.name ≡ has_name (names_left l.left) l.name

abbrev pub decreases-loop-left : goal.decreases-loop-left
decreases-loop-left l = length (names_left l.left)
