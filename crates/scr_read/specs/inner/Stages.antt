-- For private clauses: what a step of reading answers.
use Rattle.std.specs.Prelude.{◌≡◌, ℕ, List, Some, Result, Ok, Err}
use Rattle.scr_tree.specs.declared.local.Local.{Local}
use Rattle.scr_tree.specs.Local.{tree_of}
use Rattle.scr_read.specs.Outcome.{Answer, Protocol, Outcome, fault_answer}
use Rattle.scr_read.specs.declared.fault.ScrFault.{ScrFault}

-- what a fault says is what reading gives
abbrev pub IsRefusal : ℕ → List ℕ → ScrFault → Type 0
IsRefusal file bytes fault = (a : Answer) → fault_answer fault ≡ Some a → Outcome file bytes a

-- a fact of what was found, or a refusal
abbrev pub Stage : {X : Type 0} → ℕ → List ℕ → (X → Type 0) → Result X ScrFault → Type 0
Stage file bytes P (Ok x) = P x
Stage file bytes P (Err fault) = IsRefusal file bytes fault

abbrev pub IsProtocol : ℕ → List ℕ → Local → Type 0
IsProtocol file bytes local = Outcome file bytes (Protocol (tree_of local))
