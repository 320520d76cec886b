use Rattle.std.proofs.Common.{◌≡◌, map, take}
use Rattle.scr_global_tree.specs.Written.{role_place}
use Rattle.scr_global_read.proofs.verdict.places_of.Given as goal

abbrev pub invariant-loop-role : goal.invariant-loop-role
invariant-loop-role l = l.places.items ≡ map role_place (take l.role-index l.roles)
