-- What a part of a program does, and how parts combine. Both meanings are made of these.
use Rattle.std.specs.Prelude.{ℕ, Bool, List, [], ◌∷◌, ◌++◌, drop, Option, Some, None, ℤ}
use Rattle.mg_text.specs.declared.event.Event.{Event}
use Rattle.jv_values.specs.Values.{Value, Int, Truth, Text, Constant, Finish, Wrong, Row, Instance, Shared, Lives}
use Rattle.mg_text.specs.Call.{Name}

-- How a part ends: with what it gives and what is then, or the whole run with it.
-- S is what the part may change: Shared for an expression, Lives for a statement.
pub data Outcome (S A : Type 0) : Type 0 where
  Gives : A → S → Outcome S A
  Ends : Finish → List Event → Outcome S A

-- what a part does, from what is as it begins
abbrev pub Run : Type 0 → Type 0 → Type 0
Run S A = S → Outcome S A

abbrev pub and_then : {S A B : Type 0} → Outcome S A → (A → S → Outcome S B) → Outcome S B
and_then (Gives a s) go = go a s
and_then (Ends f events) go = Ends f events

infixl 10 ◌>>=◌
abbrev pub ◌>>=◌ : {S A B : Type 0} → Run S A → (A → Run S B) → Run S B
◌>>=◌ m f s = and_then (m s) f

abbrev pub give : {S A : Type 0} → A → Run S A
give a s = Gives a s

-- What is done with objects and events goes through these five.

abbrev pub stop : {A : Type 0} → Finish → Run Shared A
stop f s = Ends f s.events

abbrev pub note : Event → Run Shared (Unit {0})
note event s = Gives tt (record s { events = s.events ++ event ∷ [] })

-- the events so far
abbrev pub happened : Run Shared (List Event)
happened s = Gives s.events s

-- the objects so far
abbrev pub objects : Run Shared (List Instance)
objects s = Gives s.heap s

abbrev pub with_objects : List Instance → Run Shared (Unit {0})
with_objects heap s = Gives tt (record s { heap = heap })

abbrev pub found : {A : Type 0} → Option A → Run Shared A
found None = stop Wrong
found (Some a) = give a

-- An expression gives a value, or none where it calls a method without a result. Here a value is needed.
abbrev pub valued : Run Shared (Option Value) → Run Shared Value
valued m = m >>= found

abbrev pub valuing : Run Shared Value → Run Shared (Option Value)
valuing m = m >>= λ v. give (Some v)

-- an expression inside a statement: it sees the locals, and can't change them
abbrev pub kept : {K A : Type 0} → Row K → Outcome Shared A → Outcome (Lives K) A
kept locals (Gives a s) = Gives a (record { locals = locals; shared = s })
kept locals (Ends f events) = Ends f events

abbrev pub within : {K A : Type 0} → (Row K → Run Shared A) → Run (Lives K) A
within e s = kept s.locals (e s.locals s.shared)

-- a declaration: the local is there while the rest of its block runs
abbrev pub uncovered : {K A : Type 0} → Outcome (Lives K) A → Outcome (Lives K) A
uncovered (Gives a s) = Gives a (record s { locals = drop 1 s.locals })
uncovered (Ends f events) = Ends f events

abbrev pub declared : {K A : Type 0} → K → Value → Run (Lives K) A → Run (Lives K) A
declared x v rest s = uncovered (rest (record s { locals = (x, v) ∷ s.locals }))

-- Kinds of values.

abbrev pub number : Value → Run Shared ℤ
number (Int z) = give z
number _ = stop Wrong

abbrev pub truth : Value → Run Shared Bool
truth (Truth b) = give b
truth _ = stop Wrong

abbrev pub text : Value → Run Shared (List ℕ)
text (Text t) = give t
text _ = stop Wrong

abbrev pub constant : Value → Run Shared (Name × ℕ)
constant (Constant e n) = give (e, n)
constant _ = stop Wrong
