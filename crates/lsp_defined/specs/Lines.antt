-- The lines that tell where a method leads: `STATE: METHOD -> TARGET` for each state that offers it.
use Rattle.std.specs.Prelude.{Bool, true, List, [], ◌++◌, Option, Some, None, codes, filter}
use Rattle.std.specs.List.{flat_map}
use Rattle.std.specs.Str.{bytes_eq}
use Rattle.mg_text.specs.Call.{Name}
use Rattle.ts_tree.specs.Typestate.{Method, State, Typestate}
use Rattle.ts_tree.specs.Calls.{offered_in}
use Rattle.ts_read.specs.Layout.{target_text}
use Rattle.lsp_defined.specs.declared.spots.Spot.{Spot}

-- Of a method of a state. The target is written as in a typestate file: a state, `end`, or `<LABEL: STATE, LABEL: end>`.
abbrev pub offer_line : List State → State → Method → Name
offer_line states s m = s.name ++ (codes ": " ++ (m.name ++ (codes " -> " ++ (target_text states m.target ++ codes "\n"))))

-- of the method of this name, where the state offers it
abbrev pub line_of : List State → (method : Name) → State → Name
line_of states method s = elim (offered_in s.methods method) [ None ↦ [] | Some m ↦ offer_line states s m ]

-- the state of this name, or each where none is named
abbrev pub is_meant : Option Name → State → Bool
is_meant None s = true
is_meant (Some name) s = bytes_eq s.name name

-- in the states' order
abbrev pub lines_of : Typestate → Spot → Name
lines_of t spot = flat_map (line_of t.states spot.method) (filter (is_meant spot.state) t.states)
