-- For private clauses: what a step of reading answers.
use Rattle.std.specs.Prelude.{◌≡◌, ℕ, List, Some, Result, Ok, Err}
use Rattle.scr_global_tree.specs.declared.global.Global.{Global}
use Rattle.scr_global_tree.specs.Global.{tree_of}
use Rattle.scr_global_read.specs.Outcome.{Answer, Protocol, Outcome, fault_answer}
use Rattle.scr_global_read.specs.declared.fault.GlobalFault.{GlobalFault}

-- what a fault says is what reading gives
abbrev pub IsRefusal : ℕ → List ℕ → GlobalFault → Type 0
IsRefusal file bytes fault = (a : Answer) → fault_answer fault ≡ Some a → Outcome file bytes a

-- a fact of what was found, or a refusal
abbrev pub Stage : {X : Type 0} → ℕ → List ℕ → (X → Type 0) → Result X GlobalFault → Type 0
Stage file bytes P (Ok x) = P x
Stage file bytes P (Err fault) = IsRefusal file bytes fault

abbrev pub IsProtocol : ℕ → List ℕ → Global → Type 0
IsProtocol file bytes global = Outcome file bytes (Protocol (tree_of global))
