-- What the conditions of a resolved program promise of the sources that it stands for.
use Rattle.std.specs.Prelude.{◌≡◌, ◌≢◌, ℕ, None}
use Rattle.mg_text.specs.Call.{Name}
use Rattle.jv_values.specs.Values.{Inputs, Wrong}
use Rattle.jv_meaning.specs.Names.{main_of}
use Rattle.jv_meaning.specs.Meaning.{mean}
use Rattle.jv_rules.specs.Program.{Program}
use Rattle.jv_rules.specs.Faults.{IsWellTyped}
use Rattle.jv_rules.specs.Shape.{IsShaped}
use Rattle.jv_core.specs.Tree as Core
use Rattle.jv_core.specs.Conditions.{IsCore}
use Rattle.jv_core.specs.Meaning.{cmean}
use Rattle.jv_names.specs.Resolves.{Resolves}

-- What a class does with a budget is what it does in the core, and it isn't Wrong where the class has `main`.
pub record IsSound (program : Program) (core : Core.Program) (class : Name) (inputs : Inputs) (budget : ℕ) : Type 0 where
  pub same : mean program.files class inputs budget ≡ cmean core class inputs budget
  pub never_wrong : main_of program.files class ≢ None → (mean program.files class inputs budget).finish ≢ Wrong

-- For each class, whatever the other roles sent and whatever the budget.
abbrev pub SourcesAreSound : Type 0
SourcesAreSound = (program : Program) (core : Core.Program) → Resolves program core → IsCore core →
    (class : Name) (inputs : Inputs) (budget : ℕ) →
    IsSound program core class inputs budget

-- For sources that are well typed the core that stands for them is enough: it meets its conditions.
abbrev pub TypesAreEnough : Type 0
TypesAreEnough = (program : Program) (core : Core.Program) → IsWellTyped program → IsShaped program → Resolves program core →
    (class : Name) (inputs : Inputs) (budget : ℕ) → IsSound program core class inputs budget
