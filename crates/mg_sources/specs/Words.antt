-- The word for each condition of each reader.
use Rattle.std.specs.Prelude.{ℕ, List, codes}
use Rattle.ts_read.specs.declared.condition.Condition.{Condition as OfTypestates}
use Rattle.ts_read.specs.declared.condition.Condition.TheVariants as typestates

abbrev pub typestate_word : OfTypestates → List ℕ
typestate_word typestates.DuplicateState = codes "DuplicateState"
typestate_word typestates.UnknownState = codes "UnknownState"
typestate_word typestates.DuplicateMethod = codes "DuplicateMethod"
typestate_word typestates.SignatureDiffers = codes "SignatureDiffers"
typestate_word typestates.DuplicateLabel = codes "DuplicateLabel"
typestate_word typestates.ReservedEnd = codes "ReservedEnd"
