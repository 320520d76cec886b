use Rattle.std.proofs.Common.{◌≡◌, length, map}
use Rattle.scr_tree.specs.Written.{role_name}
use Rattle.scr_judge.specs.inner.Gone.{same_names}
use Rattle.scr_judge.proofs.roles_told.are_same_roles.Given as goal

abbrev pub invariant-roles : goal.invariant-roles
invariant-roles l = same_names (map role_name l.left) (map role_name l.right) ≡ same_names (map role_name l.fn.roles)
    (map role_name l.fn.others)

abbrev pub decreases-roles : goal.decreases-roles
decreases-roles l = length l.left
