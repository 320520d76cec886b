-- What the parts of reading answer.
use Rattle.std.specs.Prelude.{◌≡◌, ◌<◌, ◌≤◌, ℕ, List, length, Option, Some, None, Result, Ok, Err}
use Rattle.mg_text.specs.Places.{start_of}
use Rattle.mg_text.specs.Row.{Row}
use Rattle.mg_read.specs.Culprit.{Culprit, culprit}
use Rattle.ts_tree.specs.Typestate.{Typestate}
use Rattle.ts_parse.specs.declared.token.Token.{Token}
use Rattle.ts_parse.specs.declared.written.WrittenTypestate.{WrittenTypestate}
use Rattle.ts_parse.specs.Tok.{toks, AreTokens}
use Rattle.ts_parse.specs.Written.{WFile, wfile_of}
use Rattle.ts_read.specs.declared.condition.Condition.{Condition}
use Rattle.ts_read.specs.declared.condition.Condition.TheVariants as conditions
use Rattle.ts_read.specs.declared.fault.TsFault.{TsFault}
use Rattle.ts_read.specs.declared.fault.TsFault.TheVariants as faults
use Rattle.ts_read.specs.Conditions.{IsFault}
use Rattle.ts_read.specs.Meaning.{typestate_of}
use Rattle.ts_read.specs.Outcome.{Answer, Spells, Outcome, answer_of}

-- the condition that a fault tells of
abbrev pub condition_of : TsFault → Option (Condition × Culprit)
condition_of (faults.TooLarge place) = None
condition_of (faults.BadByte place) = None
condition_of (faults.Syntax place) = None
condition_of (faults.DuplicateState place name) = Some (conditions.DuplicateState, culprit place name)
condition_of (faults.UnknownState place name) = Some (conditions.UnknownState, culprit place name)
condition_of (faults.DuplicateMethod place name) = Some (conditions.DuplicateMethod, culprit place name)
condition_of (faults.SignatureDiffers place name) = Some (conditions.SignatureDiffers, culprit place name)
condition_of (faults.DuplicateLabel place name) = Some (conditions.DuplicateLabel, culprit place name)
condition_of (faults.ReservedEnd place name) = Some (conditions.ReservedEnd, culprit place name)
condition_of faults.Memory = None

-- what is answered is an outcome
abbrev pub IsToldOf : ℕ → List ℕ → Result Typestate TsFault → Type 0
IsToldOf file bytes r = (a : Answer) → answer_of r ≡ Some a → Outcome file bytes a

abbrev pub AreCut : ℕ → List ℕ → Result (Row Token) TsFault → Type 0
AreCut file bytes (Ok tokens) = AreTokens file (toks tokens.items) bytes
AreCut file bytes (Err fault) = IsToldOf file bytes (Err fault)

abbrev pub IsWritten : ℕ → List ℕ → Result WrittenTypestate TsFault → Type 0
IsWritten file bytes (Ok w) = Spells file bytes (wfile_of w)
IsWritten file bytes (Err fault) = IsToldOf file bytes (Err fault)

abbrev pub MeantFault : ℕ → WFile → TsFault → Type 0
MeantFault file w (faults.TooLarge place) = (1000 < length w.states) × (place ≡ start_of file)
MeantFault file w faults.Memory = Unit {0}
MeantFault file w fault = (x : Condition × Culprit) × (length w.states ≤ 1000) × (condition_of fault ≡ Some x) × IsFault w (Some x)

abbrev pub IsMeant : ℕ → WFile → Result Typestate TsFault → Type 0
IsMeant file w (Ok t) = (length w.states ≤ 1000) × IsFault w None × (t ≡ typestate_of w)
IsMeant file w (Err fault) = MeantFault file w fault
