-- For private clauses: what a step answers.
use Rattle.std.specs.Prelude.{◌≡◌, ◌≢◌, ◌⊎◌, ℕ, List, [], ◌∷◌, Some, None, Result, Ok, Err, map}
use Rattle.mg_text.specs.Call.{Name}
use Rattle.mg_text.specs.Row.{Row}
use Rattle.scr_tree.specs.Tree.{LocalTree}
use Rattle.scr_tree.specs.Local.{tree_of as local_of}
use Rattle.scr_tree.specs.declared.local.Local.{Local}
use Rattle.scr_global_tree.specs.Tree.{GlobalTree}
use Rattle.scr_global_tree.specs.Global.{tree_of}
use Rattle.scr_global_read.specs.Outcome as reads
use Rattle.scr_project.specs.declared.fault.ProjectFault.{ProjectFault}
use Rattle.scr_project.specs.declared.fault.ProjectFault.TheVariants as project_faults
use Rattle.scr_project.specs.Outcome as projects
use Rattle.mg_projected.specs.declared.files.RoleFile.{RoleFile}
use Rattle.mg_projected.specs.declared.locals.Locals.{Locals}
use Rattle.mg_projected.specs.declared.fault.ProjectedFault.{ProjectedFault}
use Rattle.mg_projected.specs.declared.fault.ProjectedFault.TheVariants as faults
use Rattle.mg_projected.specs.Projected.{Answer, Outcome, IsRefused, answer_of, file_of}

-- what a fault of projecting says, or that it is want of memory
pub record Says (P : projects.Answer → Type 0) (fault : ProjectFault) : Type 0 where
  pub right : (a : projects.Answer) → projects.fault_answer fault ≡ Some a → P a
  pub answers : projects.fault_answer fault ≡ None → fault ≡ project_faults.Memory

-- the local protocols of these roles, in their order
abbrev pub AreOf : GlobalTree → List Name → List LocalTree → Type 0
AreOf g [] locals = locals ≡ []
AreOf g (role ∷ roles) locals =
    (local : LocalTree) × (more : List LocalTree) × (locals ≡ local ∷ more) × projects.Outcome g role (projects.Protocol local)
    × AreOf g roles more

abbrev pub LocalsStage : GlobalTree → List Name → Result (Row Local) ProjectFault → Type 0
LocalsStage g roles (Ok locals) = AreOf g roles (map local_of locals.items)
LocalsStage g roles (Err fault) = Says (IsRefused g roles) fault

-- the file of the role of a local protocol
abbrev pub role_file : LocalTree → RoleFile
role_file local = file_of local.me local

pub record Stage (file : ℕ) (bytes : List ℕ) (result : Result (Row RoleFile) ProjectedFault) : Type 0 where
  pub right : (a : Answer) → answer_of result ≡ Some a → Outcome file bytes a
  pub answers : answer_of result ≡ None → result ≡ Err faults.Memory

-- what a file spells, with the local protocols of its roles, or its fault
abbrev pub FoundStage : (file : ℕ) (bytes : List ℕ) → Result Locals ProjectedFault → Type 0
FoundStage file bytes (Ok l) =
    reads.Outcome file bytes (reads.Protocol (tree_of l.global)) × AreOf (tree_of l.global) (tree_of l.global).roles
    (map local_of l.locals.items)
FoundStage file bytes (Err fault) = Stage file bytes (Err fault)

-- a fault is told, but for want of memory
abbrev pub IsTold : {F : Type 0} → F → F → ProjectedFault → ProjectedFault → Type 0
IsTold fault memory told result = (result ≡ faults.Memory) ⊎ ((fault ≢ memory) × (result ≡ told))
