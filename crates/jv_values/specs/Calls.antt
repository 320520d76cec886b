-- Calls of methods: a body runs from its arguments, and what it returns is the call's value.
use Rattle.std.specs.Prelude.{ℕ, Bool, true, false, List, [], Option, Some, None, if◌then◌else◌}
use Rattle.jv_values.specs.Values.{Value, Row, Shared, Lives, Here, Method, Wrong, bound}
use Rattle.jv_values.specs.Doing.{Run, Outcome, Gives, Ends, ◌>>=◌, stop, found}
use Rattle.jv_values.specs.Statements.{Completion, Normal, Returns, Does}

-- what a call gives: a body with a result returns one, and another one returns none, or comes to its end
abbrev pub returned : {K : Type 0} → (has_result : Bool) → Completion K → Option (Option Value)
returned true (Returns (Some v)) = Some (Some v)
returned false (Returns None) = Some None
returned false Normal = Some None
returned _ _ = None

abbrev pub result : {K : Type 0} → (has_result : Bool) → Outcome (Lives K) (Completion K) → Outcome Shared (Option Value)
result has (Gives c s) = found (returned has c) s.shared
result has (Ends f events) = Ends f events

-- a body, from its arguments
abbrev pub body_from : {K : Type 0} → (has_result : Bool) → Row K → Does K → Run Shared (Option Value)
body_from has row body s = result has (body (record { locals = row; shared = s }))

-- a method that runs on an object has one, and no other method has
abbrev pub suits : Bool → Option ℕ → Bool
suits true (Some o) = true
suits false None = true
suits true None = false
suits false (Some o) = false

abbrev pub called : {K T : Type 0} → (Here K → T → Does K) → Option (Method K T) → (this : Option ℕ) → List Value →
    Run Shared (Option Value)
called run method this args = do
  m ← found method
  row ← found (bound m.params args [])
  if suits m.on_object this then body_from m.has_result row (run (record { class = m.class; object = this }) m.body) else stop Wrong
