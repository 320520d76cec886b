-- The type fault of a whole program: that of its declarations, or where these have none that of its methods.
use Rattle.std.specs.Prelude.{ℕ, List, Option, Some, None}
use Rattle.mg_read.specs.Culprit.{Culprit}
use Rattle.jv_rules.specs.declared.condition.Condition.{Condition}
use Rattle.jv_rules.specs.Program.{Program}
use Rattle.jv_rules.specs.Faults.{IsTableFault, IsFault}

pub data IsTypeFault (program : Program) (origins : List ℕ) : Option (Condition × Culprit) → Type 0 where
  in_declarations : {f : Condition × Culprit} → IsTableFault program origins (Some f) → IsTypeFault program origins (Some f)
  in_methods : {f : Option (Condition × Culprit)} → IsTableFault program origins None → IsFault program f → IsTypeFault program origins f
