-- The laws.
use Rattle.std.specs.Prelude.{◌≡◌, ℕ, List, Option}
use Rattle.mg_read.specs.Culprit.{Culprit}
use Rattle.jv_rules.specs.declared.condition.Condition.{Condition}
use Rattle.jv_rules.specs.Program.{Program}
use Rattle.jv_rules.specs.Faults.{IsFault, IsTableFault}

-- A program has one fault of its declarations, and one of its methods, or none.
pub record OneFault : Type 0 where
  pub declarations : (program : Program) (origins : List ℕ) (r s : Option (Condition × Culprit)) → IsTableFault program origins r →
      IsTableFault program origins s → r ≡ s
  pub methods : (program : Program) (r s : Option (Condition × Culprit)) → IsFault program r → IsFault program s → r ≡ s
