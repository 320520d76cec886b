-- For private clauses: what a step of reading answers.
use Rattle.std.specs.Prelude.{◌≡◌, ℕ, List, Some, Result, Ok, Err}
use Rattle.jv_tree.specs.declared.tree.File.{File as KeptFile}
use Rattle.jv_tree.specs.View.{file_of}
use Rattle.jv_lex.specs.declared.LexFault.{LexFault}
use Rattle.jv_lex.specs.declared.LexFault.TheVariants as lexes
use Rattle.jv_parse.specs.declared.ParseFault.{ParseFault}
use Rattle.jv_parse.specs.declared.ParseFault.TheVariants as parses
use Rattle.jv_read.specs.Outcome.{Answer, Read, Outcome, fault_answer}
use Rattle.jv_read.specs.declared.fault.JavaFault.{JavaFault}
use Rattle.jv_read.specs.declared.fault.JavaFault.TheVariants as faults

-- what is told of a fault of the tokens
abbrev pub fault_of_tokens : LexFault → JavaFault
fault_of_tokens (lexes.TooLarge place) = faults.TooLarge place
fault_of_tokens (lexes.BadByte place) = faults.BadByte place
fault_of_tokens (lexes.OpenComment place) = faults.OpenComment place
fault_of_tokens (lexes.OpenText place) = faults.OpenText place
fault_of_tokens (lexes.BadEscape place) = faults.BadEscape place
fault_of_tokens (lexes.BadNumber place) = faults.BadNumber place
fault_of_tokens lexes.Memory = faults.Memory

-- what is told of a fault of the grammar
abbrev pub fault_of_grammar : ParseFault → JavaFault
fault_of_grammar (parses.Unsupported place text) = faults.Unsupported place text
fault_of_grammar (parses.Syntax place) = faults.Syntax place
fault_of_grammar parses.Memory = faults.Memory

-- what a fault says is what reading gives
abbrev pub IsRefusal : ℕ → List ℕ → JavaFault → Type 0
IsRefusal file bytes fault = (a : Answer) → fault_answer fault ≡ Some a → Outcome file bytes a

-- a fact of what was found, or a refusal
abbrev pub Stage : {X : Type 0} → ℕ → List ℕ → (X → Type 0) → Result X JavaFault → Type 0
Stage file bytes P (Ok x) = P x
Stage file bytes P (Err fault) = IsRefusal file bytes fault

abbrev pub IsRead : ℕ → List ℕ → KeptFile → Type 0
IsRead file bytes f = Outcome file bytes (Read (file_of f))
