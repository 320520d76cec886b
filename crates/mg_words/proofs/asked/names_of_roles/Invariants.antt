use Rattle.std.proofs.Common.{◌≡◌, ◌++◌, ◌<◌, ◌^◌, length}
use Rattle.mg_words.specs.Words.{role_names}
use Rattle.mg_words.specs.inner.Judging.{roles_in}
use Rattle.mg_words.proofs.asked.names_of_roles.Given as goal

abbrev pub invariant-loop-named : goal.invariant-loop-named
invariant-loop-named l = (l.names ++ role_names (roles_in l.left) ≡ role_names (roles_in l.words)) × (length l.names < 2 ^ 32)

abbrev pub decreases-loop-named : goal.decreases-loop-named
decreases-loop-named l = length l.left
