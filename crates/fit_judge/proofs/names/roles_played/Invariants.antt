use Rattle.std.proofs.Common.{take, map}
use Rattle.std.specs.HashSet.{contains_text}
use Rattle.vm_world_law.specs.declared.role.RoleMain.{RoleMain}
use Rattle.scr_judge.proofs.Duplicates.{HasNames}
use Rattle.fit_judge.proofs.names.roles_played.Given as goal

abbrev pub invariant-loop-main : goal.invariant-loop-main
invariant-loop-main l = HasNames (contains_text l.names) (map (λ (m : RoleMain). m.role) (take l.main-index l.mains))
