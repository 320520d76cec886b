use Rattle.std.proofs.Common.{◌≡◌, length, map}
use Rattle.scr_tree.specs.Written.{role_name}
use Rattle.scr_judge.specs.inner.Gone.{same_names}
use Rattle.scr_judge.proofs.roles_told.are_roles.Given as goal

abbrev pub invariant-names : goal.invariant-names
invariant-names l = same_names l.left (map role_name l.right) ≡ same_names l.fn.names (map role_name l.fn.roles)

abbrev pub decreases-names : goal.decreases-names
decreases-names l = length l.left
