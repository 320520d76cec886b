-- The first role whose class has no `main`.
use Rattle.std.specs.Prelude.{◌≡◌, ℕ, List, take, Option, Some, None, slice_get}
use Rattle.jv_core.specs.Tree as Core
use Rattle.jv_core.specs.Meaning.{main_of}
use Rattle.vm_world_law.specs.declared.role.RoleMain.{RoleMain}
use Rattle.mg_runs.specs.Runs.{HaveMains}

pub record IsWithout (core : Core.Program) (mains : List RoleMain) (number : ℕ) : Type 0 where
  pub main : RoleMain
  pub is : slice_get mains number ≡ Some main
  pub none : main_of core main.class ≡ None
  -- those before it have one
  pub front : HaveMains core (take number mains)

-- the first of them, or all have one
abbrev pub IsFirstWithout : Core.Program → List RoleMain → Option ℕ → Type 0
IsFirstWithout core mains None = HaveMains core mains
IsFirstWithout core mains (Some number) = IsWithout core mains number
