-- What separating may answer.
use Rattle.std.specs.Prelude.{ℕ, Result, Ok, Err}
use Rattle.mg_read.specs.declared.fault.LexFault.{LexFault}
use Rattle.mg_read.specs.declared.fault.LexFault.TheVariants as faults

-- a fact of the value, or of the offset of the bad byte; memory may run out
abbrev pub MatchLexed : {X : Type 0} → Result X LexFault → (X → Type 0) → (ℕ → Type 0) → Type 0
MatchLexed (Ok x) P Q = P x
MatchLexed (Err (faults.BadByte k)) P Q = Q k
MatchLexed (Err faults.Memory) P Q = Unit {0}
