-- What a greater budget changes.
use Rattle.std.specs.Prelude.{◌≡◌, ◌≢◌, ℕ, suc}
use Rattle.mg_text.specs.Call.{Name}
use Rattle.jv_values.specs.Values.{Inputs, More}
use Rattle.jv_values.specs.Alike.{Prefix}
use Rattle.jv_meaning.specs.Program.{Sources}
use Rattle.jv_meaning.specs.Meaning.{mean}

-- What has ended is the same with one more, and what has not goes on.
pub record GoesOn (j : Sources) (class : Name) (inputs : Inputs) (n : ℕ) : Type 0 where
  pub ended : (mean j class inputs n).finish ≢ More → mean j class inputs (suc n) ≡ mean j class inputs n
  pub more : (mean j class inputs n).finish ≡ More → Prefix (mean j class inputs n).events (mean j class inputs (suc n)).events

abbrev pub BudgetLaw : Type 0
BudgetLaw = (j : Sources) (class : Name) (inputs : Inputs) (n : ℕ) → GoesOn j class inputs n
