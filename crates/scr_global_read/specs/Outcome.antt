-- What reading the bytes of a file gives: the fault of the lowest number, at its first place in the text, or the protocol.
use Rattle.std.specs.Prelude.{◌≡◌, ◌<◌, ◌≤◌, ◌⊎◌, ℕ, List, length, take, Option, Some, None, Result, Ok, Err}
use Rattle.mg_text.specs.Call.{Name}
use Rattle.mg_text.specs.Places.{start_of, place_after}
use Rattle.mg_text.specs.declared.place.Place.{Place}
use Rattle.mg_read.specs.First.{Judged}
use Rattle.mg_read.specs.Within.{IsWithin}
use Rattle.mg_read.specs.Culprit.{culprit}
use Rattle.scr_tree.specs.declared.condition.Condition.{Condition}
use Rattle.scr_global_tree.specs.declared.global.Global.{Global}
use Rattle.scr_global_tree.specs.Global.{tree_of}
use Rattle.scr_tree.specs.Tok.{Tok}
use Rattle.scr_global_tree.specs.Tree.{GlobalTree}
use Rattle.scr_global_tree.specs.Written.{WrittenTree, global_of}
use Rattle.scr_global_tree.specs.Faults.{IsFault}
use Rattle.scr_lex.specs.Pieces.{IsBadAt}
use Rattle.scr_read.specs.Unsupported.{IsUnsupported}
use Rattle.scr_read.specs.declared.words.ProtocolKind.TheVariants as kinds
use Rattle.scr_read.specs.Spelling.{Separates}
use Rattle.scr_global_read.specs.Spelling.{Spells}
use Rattle.scr_global_parse.specs.Grammar.{IsSpelled}
use Rattle.scr_global_read.specs.declared.fault.GlobalFault.{GlobalFault}
use Rattle.scr_global_read.specs.declared.fault.GlobalFault.TheVariants as faults

-- what is answered, want of memory aside; the place of Syntax is left open here, and a refusal that names nothing has the empty name
pub data Answer : Type 0 where
  Protocol : GlobalTree → Answer
  TooLarge : Place → Answer
  BadByte : Place → Answer
  Unsupported : Place → (word : Name) → Answer
  Syntax : Answer
  Refused : Condition → Place → Name → Answer

-- one row a fault, in the order of their numbers
pub data Outcome (file : ℕ) (bytes : List ℕ) : Answer → Type 0 where
  -- over 1,048,576 bytes
  too_large : 1048576 < length bytes → Outcome file bytes (TooLarge (start_of file))
  -- no token and no separator begins at this offset
  bad_byte : (k : ℕ) → length bytes ≤ 1048576 → IsBadAt k bytes → Outcome file bytes (BadByte (place_after (start_of file) (take k bytes)))
  -- the first token that is a word that isn't supported
  unsupported : {tokens : List Tok} {place : Place} {word : Name} → Separates file bytes tokens
      → Judged (IsUnsupported kinds.Global) tokens (Some (culprit place word)) → Outcome file bytes (Unsupported place word)
  -- no tree of depth at most 200 spells the tokens
  syntax : {tokens : List Tok} → Separates file bytes tokens → Judged (IsUnsupported kinds.Global) tokens None
      → ((w : WrittenTree) → IsSpelled w tokens → ⊥) → Outcome file bytes Syntax
  -- a condition doesn't hold
  refused : {w : WrittenTree} {condition : Condition} {place : Place} {name : Name} → Spells file bytes w
      → IsFault w (Some (condition, culprit place name)) → Outcome file bytes (Refused condition place name)
  -- all of them hold
  found : {w : WrittenTree} → Spells file bytes w → IsFault w None → Outcome file bytes (Protocol (global_of w))

-- what a fault says; want of memory says nothing of the file
abbrev pub fault_answer : GlobalFault → Option Answer
fault_answer (faults.TooLarge place) = Some (TooLarge place)
fault_answer (faults.BadByte place) = Some (BadByte place)
fault_answer (faults.Unsupported place name) = Some (Unsupported place name)
fault_answer (faults.Syntax place) = Some Syntax
fault_answer (faults.Unmet condition place name) = Some (Refused condition place name)
fault_answer faults.Memory = None

-- what a call answered
abbrev pub answer_of : Result Global GlobalFault → Option Answer
answer_of (Ok global) = Some (Protocol (tree_of global))
answer_of (Err fault) = fault_answer fault

-- this was answered, or memory ran out
abbrev pub IsAnswered : Answer → Result Global GlobalFault → Type 0
IsAnswered answer result = (answer_of result ≡ Some answer) ⊎ (answer_of result ≡ None)

-- the place of Syntax is one of the file
abbrev pub HasPlace : (file : ℕ) (bytes : List ℕ) → GlobalFault → Type 0
HasPlace file bytes (faults.Syntax place) = IsWithin file bytes place
HasPlace file bytes _ = Unit {0}
