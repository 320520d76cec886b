-- What reading the bytes of a Java source gives: a fault, or the tree.
use Rattle.std.specs.Prelude.{◌≡◌, ◌≤◌, ◌⊎◌, ℕ, List, length, Option, Some, None, Result, Ok, Err}
use Rattle.mg_text.specs.Call.{Name}
use Rattle.mg_text.specs.declared.place.Place.{Place}
use Rattle.mg_read.specs.Culprit.{culprit}
use Rattle.mg_read.specs.Within.{IsWithin}
use Rattle.mg_read.specs.First.{Judged}
use Rattle.jv_tree.specs.declared.token.Token.{Token}
use Rattle.jv_tree.specs.declared.tree.File.{File as KeptFile}
use Rattle.jv_tree.specs.Source.{File}
use Rattle.jv_tree.specs.Files as files
use Rattle.jv_tree.specs.View.{file_of}
use Rattle.jv_lex.specs.Outcome as lexing
use Rattle.jv_lex.specs.Pieces.{AreTokens}
use Rattle.jv_lex.specs.declared.LexFault.{LexFault}
use Rattle.jv_lex.specs.declared.LexFault.TheVariants as lexes
use Rattle.jv_parse.specs.Unsupported.{IsUnsupported}
use Rattle.jv_read.specs.Spelling.{Spells}
use Rattle.jv_read.specs.declared.fault.JavaFault.{JavaFault}
use Rattle.jv_read.specs.declared.fault.JavaFault.TheVariants as faults

-- what is answered, want of memory aside; the place of Syntax is left open here
pub data Answer : Type 0 where
  Read : File → Answer
  TooLarge : Place → Answer
  BadByte : Place → Answer
  OpenComment : Place → Answer
  OpenText : Place → Answer
  BadEscape : Place → Answer
  BadNumber : Place → Answer
  Unsupported : Place → (text : Name) → Answer
  Syntax : Answer

-- what is told of a fault of the tokens; want of memory says nothing of the file
abbrev pub told : LexFault → Option Answer
told (lexes.TooLarge place) = Some (TooLarge place)
told (lexes.BadByte place) = Some (BadByte place)
told (lexes.OpenComment place) = Some (OpenComment place)
told (lexes.OpenText place) = Some (OpenText place)
told (lexes.BadEscape place) = Some (BadEscape place)
told (lexes.BadNumber place) = Some (BadNumber place)
told lexes.Memory = None

-- one row a fault, in the order in which they are judged
pub data Outcome (file : ℕ) (bytes : List ℕ) : Answer → Type 0 where
  -- there are over 1,048,576 bytes, or they can't be cut into tokens: the first fault of the tokens
  uncut : (fault : LexFault) (a : Answer) → lexing.Outcome file bytes (Err fault) → told fault ≡ Some a → Outcome file bytes a
  -- the first token that isn't supported
  unsupported : (tokens : List Token) (place : Place) (text : Name) → length bytes ≤ 1048576 → AreTokens file tokens bytes
      → Judged IsUnsupported tokens (Some (culprit place text)) → Outcome file bytes (Unsupported place text)
  -- all tokens are supported, and they spell no tree
  syntax : (tokens : List Token) → length bytes ≤ 1048576 → AreTokens file tokens bytes → Judged IsUnsupported tokens None
      → ((f : File) → files.Spells f tokens → ⊥) → Outcome file bytes Syntax
  read : (f : File) → Spells file bytes f → Outcome file bytes (Read f)

-- what a fault says; want of memory says nothing of the file
abbrev pub fault_answer : JavaFault → Option Answer
fault_answer (faults.TooLarge place) = Some (TooLarge place)
fault_answer (faults.BadByte place) = Some (BadByte place)
fault_answer (faults.OpenComment place) = Some (OpenComment place)
fault_answer (faults.OpenText place) = Some (OpenText place)
fault_answer (faults.BadEscape place) = Some (BadEscape place)
fault_answer (faults.BadNumber place) = Some (BadNumber place)
fault_answer (faults.Unsupported place name) = Some (Unsupported place name)
fault_answer (faults.Syntax place) = Some Syntax
fault_answer faults.Memory = None

-- what a call answered
abbrev pub answer_of : Result KeptFile JavaFault → Option Answer
answer_of (Ok f) = Some (Read (file_of f))
answer_of (Err fault) = fault_answer fault

-- this was answered, or memory ran out
abbrev pub IsAnswered : Answer → Result KeptFile JavaFault → Type 0
IsAnswered answer result = (answer_of result ≡ Some answer) ⊎ (answer_of result ≡ None)

-- the place of Syntax is one of the file
abbrev pub HasPlace : (file : ℕ) (bytes : List ℕ) → JavaFault → Type 0
HasPlace file bytes (faults.Syntax place) = IsWithin file bytes place
HasPlace file bytes _ = Unit {0}
