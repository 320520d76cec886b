use Rattle.std.proofs.Common.{take, map}
use Rattle.std.specs.HashSet.{contains_text}
use Rattle.scr_tree.specs.Written.{role_name}
use Rattle.scr_judge.proofs.Duplicates.{HasNames}
use Rattle.scr_judge.proofs.roles.listed_roles.Given as goal

abbrev pub invariant-loop-role : goal.invariant-loop-role
invariant-loop-role l = HasNames (contains_text l.names) (map role_name (take l.role-index l.roles))
