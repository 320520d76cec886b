use Rattle.std.proofs.Common.{◌≡◌, length}
use Rattle.std.specs.List.{list_all}
use Rattle.mg_words.specs.Words.{role_names}
use Rattle.mg_words.specs.inner.Judging.{roles_in, names_in, has_name}
use Rattle.mg_words.proofs.roles.names_each.Given as goal

abbrev pub invariant-loop-named : goal.invariant-loop-named
invariant-loop-named l =
    list_all (has_name (names_in l.word)) (role_names (roles_in l.words))
    ≡ list_all (has_name (names_in l.word)) (role_names (roles_in l.left))

abbrev pub decreases-loop-named : goal.decreases-loop-named
decreases-loop-named l = length l.left
