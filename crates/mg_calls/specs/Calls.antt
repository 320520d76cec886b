-- What a file of calls says.
use Rattle.std.specs.Prelude.{◌≡◌, ◌≢◌, ℕ, List, [], ◌∷◌, ◌++◌, Option, Some, None}
use Rattle.mg_text.specs.Call.{Call}
use Rattle.mg_text.specs.declared.place.Place.{Place}
use Rattle.mg_read.specs.Letters.{is_name_byte}
use Rattle.mg_read.specs.Passes.{AllPasses}
use Rattle.mg_read.specs.First.{Judged}
use Rattle.mg_calls.specs.Lines.{Line, lines, numbered}

-- one or more ASCII letters, digits or "_"
abbrev pub IsWord : List ℕ → Type 0
IsWord word = (word ≢ []) × AllPasses is_name_byte word

-- A line is empty, a comment, a method, or a method and the label that it answers with, with one blank between.
pub data Says : List ℕ → Option Call → Type 0 where
  blank : Says [] None
  comment : (rest : List ℕ) → Says (35 ∷ rest) None
  method : {name : List ℕ} → IsWord name → Says name (Some (record { method = name; answer = None }))
  answered : (name label : List ℕ) → IsWord name → IsWord label →
      Says (name ++ 32 ∷ label) (Some (record { method = name; answer = Some label }))

-- a call, with the number of its line
pub record CallAt : Type 0 where
  pub line : ℕ
  pub call : Call

-- the calls of lines, in their order
pub data CallsOf : List Line → List CallAt → Type 0 where
  none : CallsOf [] []
  silent : {line : Line} {more : List Line} {calls : List CallAt} → Says line.text None → CallsOf more calls → CallsOf (line ∷ more) calls
  one : {line : Line} {more : List Line} {calls : List CallAt} (call : Call) → Says line.text (Some call) → CallsOf more calls →
      CallsOf (line ∷ more) (record { line = line.number; call = call } ∷ calls)

-- the lines of a file, numbered from 1
abbrev pub lines_of : List ℕ → List Line
lines_of bytes = numbered 1 (lines bytes)

-- the calls that a file lists
abbrev pub AreCalls : List ℕ → List CallAt → Type 0
AreCalls bytes = CallsOf (lines_of bytes)

-- the line says nothing of these, and this is where it begins
abbrev pub IsBadLine : ℕ → Line → Place → Type 0
IsBadLine file line place = ((said : Option Call) → Says line.text said → ⊥)
    × (place ≡ record { file = file; line = line.number; column = 1 })

-- the first bad line of a file is at this place
abbrev pub IsFirstBad : ℕ → List ℕ → Place → Type 0
IsFirstBad file bytes place = Judged (IsBadLine file) (lines_of bytes) (Some place)
