-- What the functions that read calls answer.
use Rattle.std.specs.Prelude.{◌≡◌, ◌<◌, ◌≤◌, ℕ, List, [], ◌∷◌, map, length, drop, Option, Some, None, option_map, Result, Ok, Err}
use Rattle.mg_text.specs.Call.{Call}
use Rattle.mg_text.specs.Places.{start_of}
use Rattle.mg_text.specs.Row.{Row}
use Rattle.mg_calls.specs.declared.CallLine.{CallLine}
use Rattle.mg_calls.specs.declared.CallsFault.{CallsFault}
use Rattle.mg_calls.specs.declared.CallsFault.TheVariants as faults
use Rattle.mg_calls.specs.declared.line.Said.{Said}
use Rattle.mg_calls.specs.declared.line.Said.TheVariants as said
use Rattle.mg_calls.specs.Calls.{Says, CallAt, AreCalls, IsFirstBad}

-- the call of a line, as definitions speak of it
abbrev pub call_of : CallLine → CallAt
call_of line = record { line = line.line; call = record { method = line.method.now; answer = option_map (λ a. a.now) line.answer } }

-- the calls of a file, or why it is refused; memory may run out
abbrev pub IsRead : ℕ → List ℕ → Result (Row CallLine) CallsFault → Type 0
IsRead file bytes (Ok calls) = (length bytes ≤ 1048576) × AreCalls bytes (map call_of calls.items)
IsRead file bytes (Err (faults.TooLarge place)) = (1048576 < length bytes) × (place ≡ start_of file)
IsRead file bytes (Err (faults.BadLine place)) = (length bytes ≤ 1048576) × IsFirstBad file bytes place
IsRead file bytes (Err faults.Memory) = Unit {0}

-- what one line says
abbrev pub IsSaid : List ℕ → Said → Type 0
IsSaid line said.Nothing = Says line None
IsSaid line (said.Call method answer) = Says line (Some (record { method = method.now; answer = option_map (λ a. a.now) answer }))
IsSaid line said.Bad = (what : Option Call) → Says line what → ⊥

-- what stands behind a first byte, if there is one
abbrev pub behind_feed : List ℕ → Option (List ℕ)
behind_feed [] = None
behind_feed (c ∷ cs) = Some cs

-- what stands behind a line that ends there, if it has a line feed
abbrev pub rest_behind : ℕ → List ℕ → Option (List ℕ)
rest_behind end bytes = behind_feed (drop end bytes)
