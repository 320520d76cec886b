-- What reading the bytes of a typestate file gives: the fault of the lowest number, at its first place in the text, or the typestate.
use Rattle.std.specs.Prelude.{◌≡◌, ◌<◌, ◌≤◌, ◌⊎◌, ℕ, List, length, take, Option, Some, None, Result, Ok, Err}
use Rattle.mg_text.specs.Call.{Name}
use Rattle.mg_text.specs.Places.{start_of, place_after}
use Rattle.mg_text.specs.declared.place.Place.{Place}
use Rattle.mg_read.specs.Culprit.{culprit}
use Rattle.mg_read.specs.Within.{IsWithin}
use Rattle.ts_tree.specs.Typestate.{Typestate}
use Rattle.ts_parse.specs.Tok.{Tok, AreTokens, IsBadAt}
use Rattle.ts_parse.specs.Grammar.{IsSpelled}
use Rattle.ts_parse.specs.Written.{WFile}
use Rattle.ts_read.specs.Conditions.{IsFault}
use Rattle.ts_read.specs.Meaning.{typestate_of}
use Rattle.ts_read.specs.declared.condition.Condition.{Condition}
use Rattle.ts_read.specs.declared.condition.Condition.TheVariants as conditions
use Rattle.ts_read.specs.declared.fault.TsFault.{TsFault}
use Rattle.ts_read.specs.declared.fault.TsFault.TheVariants as faults

-- what is answered, want of memory aside; the place of Syntax is left open here
pub data Answer : Type 0 where
  Read : Typestate → Answer
  TooLarge : Place → Answer
  BadByte : Place → Answer
  Syntax : Answer
  Refused : Condition → Place → Name → Answer

-- the bytes of the file of this number spell what is written
pub record Spells (file : ℕ) (bytes : List ℕ) (w : WFile) : Type 0 where
  pub size : length bytes ≤ 1048576
  pub tokens : List Tok
  pub cut : AreTokens file tokens bytes
  pub spelled : IsSpelled w tokens

-- one row a fault, in the order of their numbers
pub data Outcome (file : ℕ) (bytes : List ℕ) : Answer → Type 0 where
  -- over 1,048,576 bytes
  too_large : 1048576 < length bytes → Outcome file bytes (TooLarge (start_of file))
  -- over 1,000 states
  too_many : {w : WFile} → Spells file bytes w → 1000 < length w.states → Outcome file bytes (TooLarge (start_of file))
  -- no token and no separator begins at this offset, or the bytes stop to be UTF-8
  bad_byte : (k : ℕ) → length bytes ≤ 1048576 → IsBadAt k bytes → Outcome file bytes (BadByte (place_after (start_of file) (take k bytes)))
  -- no tree spells the tokens
  syntax : {tokens : List Tok} → length bytes ≤ 1048576 → AreTokens file tokens bytes → ((w : WFile) → IsSpelled w tokens → ⊥)
      → Outcome file bytes Syntax
  -- a condition doesn't hold
  refused : {w : WFile} {condition : Condition} {place : Place} {name : Name} → Spells file bytes w → length w.states ≤ 1000
      → IsFault w (Some (condition, culprit place name)) → Outcome file bytes (Refused condition place name)
  -- all of them hold
  read : {w : WFile} → Spells file bytes w → length w.states ≤ 1000 → IsFault w None → Outcome file bytes (Read (typestate_of w))

-- what a call answered, or that memory ran out
abbrev pub answer_of : Result Typestate TsFault → Option Answer
answer_of (Ok typestate) = Some (Read typestate)
answer_of (Err (faults.TooLarge place)) = Some (TooLarge place)
answer_of (Err (faults.BadByte place)) = Some (BadByte place)
answer_of (Err (faults.Syntax place)) = Some Syntax
answer_of (Err (faults.DuplicateState place name)) = Some (Refused conditions.DuplicateState place name)
answer_of (Err (faults.UnknownState place name)) = Some (Refused conditions.UnknownState place name)
answer_of (Err (faults.DuplicateMethod place name)) = Some (Refused conditions.DuplicateMethod place name)
answer_of (Err (faults.SignatureDiffers place name)) = Some (Refused conditions.SignatureDiffers place name)
answer_of (Err (faults.DuplicateLabel place name)) = Some (Refused conditions.DuplicateLabel place name)
answer_of (Err (faults.ReservedEnd place name)) = Some (Refused conditions.ReservedEnd place name)
answer_of (Err faults.Memory) = None

-- this was answered, or memory ran out
abbrev pub IsAnswered : Answer → Result Typestate TsFault → Type 0
IsAnswered answer result = (answer_of result ≡ Some answer) ⊎ (answer_of result ≡ None)

-- the place of Syntax is one of the file
abbrev pub HasPlace : (file : ℕ) (bytes : List ℕ) → TsFault → Type 0
HasPlace file bytes (faults.Syntax place) = IsWithin file bytes place
HasPlace file bytes _ = Unit {0}
