-- What the bytes of a Java source give: their tokens, or the first fault.
use Rattle.std.specs.Prelude.{ℕ, ◌<◌, ◌≤◌, List, length, take, Result, Ok, Err}
use Rattle.mg_text.specs.Places.{start_of, place_after}
use Rattle.mg_text.specs.Row.{Row}
use Rattle.jv_tree.specs.declared.token.Token.{Token}
use Rattle.jv_lex.specs.declared.fault.Cause.{Cause}
use Rattle.jv_lex.specs.declared.fault.LexFault.{LexFault}
use Rattle.jv_lex.specs.declared.fault.LexFault.TheVariants as faults
use Rattle.jv_lex.specs.Faults.{IsFirst, told}
use Rattle.jv_lex.specs.Pieces.{AreTokens}

-- the tokens, or a fault
abbrev pub Lexing : Type 0
Lexing = Result (List Token) LexFault

-- one row an answer; over 1,048,576 bytes nothing is read
pub data Outcome (file : ℕ) (bytes : List ℕ) : Lexing → Type 0 where
  too_large : 1048576 < length bytes → Outcome file bytes (Err (faults.TooLarge (start_of file)))
  refused : (cause : Cause) (k : ℕ) → length bytes ≤ 1048576 → IsFirst bytes cause k
      → Outcome file bytes (Err (told cause (place_after (start_of file) (take k bytes))))
  lexed : (ts : List Token) → length bytes ≤ 1048576 → AreTokens file ts bytes → Outcome file bytes (Ok ts)

-- a fact of what was answered; want of memory says nothing of the file
abbrev pub Answers : Result (Row Token) LexFault → (Lexing → Type 0) → Type 0
Answers (Ok found) P = P (Ok found.items)
Answers (Err faults.Memory) P = Unit {0}
Answers (Err (faults.TooLarge place)) P = P (Err (faults.TooLarge place))
Answers (Err (faults.BadByte place)) P = P (Err (faults.BadByte place))
Answers (Err (faults.OpenComment place)) P = P (Err (faults.OpenComment place))
Answers (Err (faults.OpenText place)) P = P (Err (faults.OpenText place))
Answers (Err (faults.BadEscape place)) P = P (Err (faults.BadEscape place))
Answers (Err (faults.BadNumber place)) P = P (Err (faults.BadNumber place))
