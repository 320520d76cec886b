-- Which files fit a global protocol, run by which roles, and can be compiled; and the first refusal of those that don't.
use Rattle.std.specs.Prelude.{List, [], ◌∷◌}
use Rattle.scr_tree.specs.Tree.{LocalTree}
use Rattle.scr_global_tree.specs.Tree.{GlobalTree}
use Rattle.jv_core.specs.Tree as Core
use Rattle.vm_world_law.specs.declared.role.RoleMain.{RoleMain}
use Rattle.mg_refusal.specs.Refusals.{Refusal}
use Rattle.mg_refusal.specs.Order.{Then}
use Rattle.mg_sources.specs.Files.{Source}
use Rattle.mg_accepted.specs.Accepted.{AreAccepted}
use Rattle.mg_compile.specs.declared.files.ClassFile.{ClassFile}
use Rattle.mg_compile.specs.Files.{AreClassFiles}
use Rattle.mg_projected.specs.Told.{AreLocals}
use Rattle.mg_projected.specs.Told as projecting
use Rattle.mg_runs.specs.Runs.{HaveMains}
use Rattle.mg_runs.specs.Commanded as running
use Rattle.mg_fits.specs.Fits.{Fits, IsUnfit}

-- the file of a global protocol spells this one, and each of its roles has a projection
abbrev pub IsProjected : Source → GlobalTree → Type 0
IsProjected global tree = (locals : List LocalTree) × AreLocals global tree locals

-- Files whose roles can be run: they are accepted, the class of each role has a `main`, and their class files can be made.
pub record CanRun (files : List Source) (mains : List RoleMain) (core : Core.Program) : Type 0 where
  pub accepted : AreAccepted files core
  pub have_mains : HaveMains core mains
  pub written : List ClassFile
  pub class_files : AreClassFiles core written

-- These files fit the global protocol, run by these roles, and can be run.
pub record AreFitted (global : Source) (files : List Source) (mains : List RoleMain) : Type 0 where
  pub core : Core.Program
  pub fits : Fits global files mains core
  pub can_run : CanRun files mains core

-- The first refusal of these files: that of the global protocol; else that of the files and the roles, as of a run; else by the first
-- condition of fitting that is at fault.
abbrev pub FirstRefusal : Source → List Source → List RoleMain → Refusal → Type 0
FirstRefusal global files mains =
    Then (projecting.FirstRefusal (global ∷ [])) (IsProjected global) (λ tree.
    Then (running.FirstRefusal files mains) (CanRun files mains) (λ core. IsUnfit tree files mains core))
