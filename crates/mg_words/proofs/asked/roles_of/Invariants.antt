use Rattle.std.proofs.Common.{◌≡◌, ◌++◌, length}
use Rattle.mg_words.specs.inner.Judging.{roles_in, role_classes_of}
use Rattle.mg_words.proofs.asked.roles_of.Given as goal

abbrev pub invariant-loop-named : goal.invariant-loop-named
invariant-loop-named l = role_classes_of l.mains.items ++ roles_in l.left ≡ roles_in l.words

abbrev pub decreases-loop-named : goal.decreases-loop-named
decreases-loop-named l = length l.left
