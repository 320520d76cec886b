-- For private clauses: what a step of projecting answers.
use Rattle.std.specs.Prelude.{◌≡◌, ◌≢◌, ◌⊎◌, ℕ, Some, None, Result, Err}
use Rattle.mg_text.specs.Call.{Name}
use Rattle.mg_text.specs.Places.{start_of}
use Rattle.scr_tree.specs.declared.local.Local.{Local}
use Rattle.scr_read.specs.declared.fault.ScrFault.{ScrFault}
use Rattle.scr_read.specs.Outcome.{fault_answer}
use Rattle.scr_global_tree.specs.Tree.{GlobalTree}
use Rattle.scr_project.specs.declared.fault.ProjectFault.{ProjectFault}
use Rattle.scr_project.specs.declared.fault.ProjectFault.TheVariants as faults
use Rattle.scr_project.specs.Outcome.{Answer, Outcome, answer_of}

-- what is answered is what projecting gives, and nothing is answered only for want of memory
pub record Stage (g : GlobalTree) (me : Name) (result : Result Local ProjectFault) : Type 0 where
  pub right : (a : Answer) → answer_of result ≡ Some a → Outcome g me a
  pub answers : answer_of result ≡ None → result ≡ Err faults.Memory

-- the fault of a local protocol is told, unless memory ran out
abbrev pub IsUnprojected : ℕ → Name → ScrFault → Result Local ProjectFault → Type 0
IsUnprojected file role fault result =
    (result ≡ Err faults.Memory) ⊎ ((result ≡ Err (faults.Unprojected (start_of file) role fault)) × (fault_answer fault ≢ None))
