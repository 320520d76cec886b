use Rattle.std.proofs.Common.{take, map}
use Rattle.scr_judge.specs.inner.Seen.{noted_in}
use Rattle.scr_tree.specs.Written.{role_name}
use Rattle.scr_judge.proofs.Duplicates.{HasNames}
use Rattle.scr_judge.proofs.roles.noted_roles.Given as goal

abbrev pub invariant-loop-role : goal.invariant-loop-role
invariant-loop-role l = HasNames (noted_in l.names) (map role_name (take l.role-index l.roles))
