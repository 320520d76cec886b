use Rattle.std.proofs.Common.{◌≡◌, length}
use Rattle.mg_words.specs.Words.{role_names}
use Rattle.mg_words.specs.inner.Judging.{roles_in, has_name}
use Rattle.mg_words.proofs.roles.has_role.Given as goal

abbrev pub invariant-loop-named : goal.invariant-loop-named
invariant-loop-named l = has_name (role_names (roles_in l.words)) l.name ≡ has_name (role_names (roles_in l.left)) l.name

abbrev pub decreases-loop-named : goal.decreases-loop-named
decreases-loop-named l = length l.left
