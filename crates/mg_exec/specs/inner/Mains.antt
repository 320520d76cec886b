-- For private clauses: the first role whose class has no `main`.
use Rattle.std.specs.Prelude.{◌≡◌, ℕ, List, take, Option, Some, None, slice_get}
use Rattle.vm_model.specs.Program.{Program}
use Rattle.vm_step.specs.Main.{HasMain}
use Rattle.vm_world_law.specs.declared.role.RoleMain.{RoleMain}
use Rattle.mg_exec.specs.Runs.{HaveMains}

pub record IsWithout (program : Program) (mains : List RoleMain) (number : ℕ) : Type 0 where
  pub main : RoleMain
  pub is : slice_get mains number ≡ Some main
  pub none : HasMain program main.class → ⊥
  -- those before it have one
  pub front : HaveMains program (take number mains)

-- the first of them, or all have one
abbrev pub IsFirstWithout : Program → List RoleMain → Option ℕ → Type 0
IsFirstWithout program mains None = HaveMains program mains
IsFirstWithout program mains (Some number) = IsWithout program mains number
