-- The place of Syntax is one of the file.
use Rattle.std.proofs.Common.{◌≡◌, ℕ, List, refl}
use Rattle.mg_text.specs.declared.place.Place.{Place}
use Rattle.ts_read.specs.declared.fault.TsFault.{TsFault}
use Rattle.ts_read.specs.declared.fault.TsFault.TheVariants as faults
use Rattle.ts_read.specs.Outcome.{HasPlace}

-- another fault has none to have
pub no_place : (file : ℕ) (bytes : List ℕ) (fault : TsFault) →
    ((place : Place) → fault ≡ faults.Syntax place → ⊥) → HasPlace file bytes fault
no_place file bytes (faults.Syntax place) n = absurd (n place refl)
no_place file bytes _ n = tt
