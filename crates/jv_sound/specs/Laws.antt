-- The laws.
use Rattle.std.specs.Prelude.{◌≡◌, ◌≢◌, ℕ, suc, None}
use Rattle.mg_text.specs.Call.{Name}
use Rattle.jv_values.specs.Values.{Inputs, More, Wrong}
use Rattle.jv_values.specs.Alike.{Prefix}
use Rattle.jv_core.specs.Tree.{Program}
use Rattle.jv_core.specs.Conditions.{IsCore}
use Rattle.jv_core.specs.Meaning.{main_of, cmean}

-- For each class with `main`, whatever the other roles sent and whatever the budget, no meaning of a core ends with Wrong.
abbrev pub NeverWrong : Type 0
NeverWrong = (p : Program) → IsCore p → (class : Name) → main_of p class ≢ None → (inputs : Inputs) (budget : ℕ) →
    (cmean p class inputs budget).finish ≢ Wrong

-- What has ended is the same with one more, and what has not goes on.
pub record GoesOn (p : Program) (class : Name) (inputs : Inputs) (budget : ℕ) : Type 0 where
  pub ended : (cmean p class inputs budget).finish ≢ More → cmean p class inputs (suc budget) ≡ cmean p class inputs budget
  pub more : (cmean p class inputs budget).finish ≡ More →
      Prefix (cmean p class inputs budget).events (cmean p class inputs (suc budget)).events

abbrev pub BudgetLaw : Type 0
BudgetLaw = (p : Program) (class : Name) (inputs : Inputs) (budget : ℕ) → GoesOn p class inputs budget
