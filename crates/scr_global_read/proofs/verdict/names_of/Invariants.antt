use Rattle.std.proofs.Common.{◌≡◌, map, take}
use Rattle.scr_tree.specs.Written.{role_name}
use Rattle.scr_global_read.proofs.verdict.names_of.Given as goal

abbrev pub invariant-loop-role : goal.invariant-loop-role
invariant-loop-role l = l.names.items ≡ map role_name (take l.role-index l.roles)
