-- What projecting the global protocol of a file gives: the files of its roles, or the first refusal.
use Rattle.std.specs.Prelude.{◌≡◌, ◌⊎◌, ℕ, List, [], ◌∷◌, ◌++◌, Option, Some, None, option_map, map, Result, Ok, Err, codes}
use Rattle.mg_text.specs.Call.{Name}
use Rattle.mg_text.specs.Row.{Row}
use Rattle.scr_tree.specs.Tree.{LocalTree}
use Rattle.scr_read.specs.Layout.{layout}
use Rattle.scr_global_tree.specs.Tree.{GlobalTree}
use Rattle.scr_global_read.specs.Outcome as reads
use Rattle.scr_project.specs.Laws.{AreProjected}
use Rattle.scr_project.specs.Outcome as projects
use Rattle.mg_projected.specs.declared.files.RoleFile.{RoleFile}
use Rattle.mg_projected.specs.declared.fault.ProjectedFault.{ProjectedFault}
use Rattle.mg_projected.specs.declared.fault.ProjectedFault.TheVariants as faults

-- the file of a role whose local protocol is this one
abbrev pub file_of : Name → LocalTree → RoleFile
file_of role local = record { name = role ++ codes ".scr"; text = layout local }

-- the files of these roles, in their order
abbrev pub AreFiles : GlobalTree → List Name → List RoleFile → Type 0
AreFiles g [] files = files ≡ []
AreFiles g (role ∷ roles) files =
    (local : LocalTree) × (more : List RoleFile) × (files ≡ file_of role local ∷ more) × projects.Outcome g role (projects.Protocol local)
    × AreFiles g roles more

-- Files of the roles of a global protocol, in their order: each has the text of what its role does, so that the laws of projection speak of
-- them.
pub record IsProjected (g : GlobalTree) (files : List RoleFile) : Type 0 where
  pub locals : Name → LocalTree
  pub projected : AreProjected g locals
  pub written : files ≡ map (λ role. file_of role (locals role)) g.roles

-- an answer that is no protocol
abbrev pub IsRefusal : projects.Answer → Type 0
IsRefusal (projects.Protocol local) = ⊥
IsRefusal _ = Unit {0}

-- why the first of these roles that has no local protocol has none
abbrev pub IsRefused : GlobalTree → List Name → projects.Answer → Type 0
IsRefused g [] a = ⊥
IsRefused g (role ∷ roles) a =
    (projects.Outcome g role a × IsRefusal a) ⊎ ((local : LocalTree) × projects.Outcome g role (projects.Protocol local) × IsRefused g roles
    a)

-- what is answered, want of memory aside
pub data Answer : Type 0 where
  Files : List RoleFile → Answer
  Unread : reads.Answer → Answer
  Unprojected : projects.Answer → Answer

-- an answer of reading that is no protocol
abbrev pub IsUnread : reads.Answer → Type 0
IsUnread (reads.Protocol g) = ⊥
IsUnread _ = Unit {0}

pub data Outcome (file : ℕ) (bytes : List ℕ) : Answer → Type 0 where
  unread : {a : reads.Answer} → reads.Outcome file bytes a → IsUnread a → Outcome file bytes (Unread a)
  unprojected : {g : GlobalTree} {a : projects.Answer} → reads.Outcome file bytes (reads.Protocol g) → IsRefused g g.roles a →
      Outcome file bytes (Unprojected a)
  written : {g : GlobalTree} {files : List RoleFile} → reads.Outcome file bytes (reads.Protocol g) → AreFiles g g.roles files →
      Outcome file bytes (Files files)

-- what a fault says; want of memory says nothing of the file
abbrev pub fault_answer : ProjectedFault → Option Answer
fault_answer (faults.Unread fault) = option_map Unread (reads.fault_answer fault)
fault_answer (faults.Unprojected fault) = option_map Unprojected (projects.fault_answer fault)
fault_answer faults.Memory = None

-- what a call answered
abbrev pub answer_of : Result (Row RoleFile) ProjectedFault → Option Answer
answer_of (Ok files) = Some (Files files.items)
answer_of (Err fault) = fault_answer fault

-- this was answered, or memory ran out
abbrev pub IsAnswered : Answer → Result (Row RoleFile) ProjectedFault → Type 0
IsAnswered answer result = (answer_of result ≡ Some answer) ⊎ (result ≡ Err faults.Memory)
