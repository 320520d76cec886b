use Rattle.std.proofs.Common.{take, map, List}
use Rattle.std.specs.HashSet.{contains_text}
use Rattle.jv_core.specs.Tree.{Program}
use Rattle.mg_read.proofs.Scanning.{Left}
use Rattle.scr_global_tree.specs.Tree.{GlobalTree}
use Rattle.scr_judge.proofs.Duplicates.{HasNames}
use Rattle.vm_world_law.specs.declared.role.RoleMain.{RoleMain}
use Rattle.mg_sources.specs.Reading.{Part}
use Rattle.mg_fits.specs.Conditions.{SharesMain}
use Rattle.fit_judge.proofs.roles.shared_main.Given as goal

abbrev pub invariant-loop-main : goal.invariant-loop-main
invariant-loop-main l = record {
  names : HasNames (contains_text l.classes) (map (λ (m : RoleMain). m.class) (take l.main-index l.mains));
  left : (global : GlobalTree) (parts : List Part) (core : Program) → Left (SharesMain global parts core l.mains) l.mains l.main-index;
}
