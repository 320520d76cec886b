-- The typestate that a file means.
use Rattle.std.specs.Prelude.{ℕ, List, map, Option, Some, None, position, if◌then◌else◌, codes}
use Rattle.std.specs.Str.{bytes_eq}
use Rattle.mg_text.specs.Call.{Name}
use Rattle.ts_tree.specs.declared.parts.To.{To}
use Rattle.ts_tree.specs.declared.parts.To.TheVariants as tos
use Rattle.ts_tree.specs.declared.parts.Branch.{Branch}
use Rattle.ts_tree.specs.Typestate.{Target, One, ByAnswer, Method, State, Typestate}
use Rattle.ts_parse.specs.declared.written.WrittenBranch.{WrittenBranch}
use Rattle.ts_parse.specs.Written.{WTarget, to_one, by_label, WMethod, WState, WFile, methods_in, has_drop}
use Rattle.ts_read.specs.Conditions.{state_names, texts}

-- the first state of this name; what is none, since it is refused, counts as the end
abbrev pub state_numbered : Option ℕ → To
state_numbered (Some q) = tos.State q
state_numbered None = tos.End

-- the end, or the state of this name
abbrev pub place_named : List Name → Name → To
place_named states text = if bytes_eq text (codes "end") then tos.End else state_numbered (position (bytes_eq text) states)

abbrev pub branch_meant : List Name → WrittenBranch → Branch
branch_meant states b = record { label = b.label.text; to = place_named states b.to.text }

abbrev pub target_meant : List Name → WTarget → Target
target_meant states (to_one n) = One (place_named states n.text)
target_meant states (by_label branches) = ByAnswer (map (branch_meant states) branches)

abbrev pub method_meant : List Name → WMethod → Method
method_meant states m = record { result = m.result; name = m.name.text; params = m.params; target = target_meant states m.target }

abbrev pub state_meant : List Name → WState → State
state_meant states s = record { name = s.name.text; methods = map (method_meant states) (methods_in s.entries); drops = has_drop s.entries }

abbrev pub typestate_of : WFile → Typestate
typestate_of w = record { name = w.name; states = map (state_meant (texts (state_names w))) w.states }
