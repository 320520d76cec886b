use Rattle.std.proofs.Common.{◌≡◌, length}
use Rattle.std.specs.List.{list_all}
use Rattle.mg_words.specs.Words.{role_names}
use Rattle.mg_words.specs.inner.Judging.{roles_in, names_in, names_left, has_name}
use Rattle.mg_words.proofs.roles.names_only.Given as goal

abbrev pub invariant-loop-left : goal.invariant-loop-left
invariant-loop-left l =
    list_all (has_name (role_names (roles_in l.words))) (names_in l.word)
    ≡ list_all (has_name (role_names (roles_in l.words))) (names_left l.left)

abbrev pub decreases-loop-left : goal.decreases-loop-left
decreases-loop-left l = length (names_left l.left)
