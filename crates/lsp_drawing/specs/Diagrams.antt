-- The diagram of a typestate, in the language of Mermaid: an arrow a line.
use Rattle.std.specs.Prelude.{ℕ, Bool, true, false, List, [], ◌++◌, codes, map, slice_get}
use Rattle.std.specs.List.{flat_map}
use Rattle.mg_text.specs.Call.{Name}
use Rattle.ts_tree.specs.declared.parts.To.{To}
use Rattle.ts_tree.specs.declared.parts.To.TheVariants as tos
use Rattle.ts_tree.specs.declared.parts.Branch.{Branch}
use Rattle.ts_tree.specs.Typestate.{Target, One, ByAnswer, Method, State, Typestate}
use Rattle.ts_tree.specs.Calls.{initial}
use Rattle.ts_read.specs.Layout.{type_text, listed, name_of}

-- where an arrow leads: to a state by its name, or to the end
abbrev pub end_text : List State → To → List ℕ
end_text states (tos.State n) = name_of (slice_get states n)
end_text states tos.End = codes "[*]"

-- an arrow, with what is written at it
abbrev pub arrow : (from to label : List ℕ) → List ℕ
arrow from to label = codes "    " ++ from ++ codes " --> " ++ to ++ codes " : " ++ label ++ codes "\n"

-- a method with the types of its parameters
abbrev pub call_text : Method → List ℕ
call_text m = m.name ++ codes "(" ++ listed (map type_text m.params) ++ codes ")"

-- an arrow for a label that calls answer with
abbrev pub branch_arrow : List State → (from call : List ℕ) → Branch → List ℕ
branch_arrow states from call b = arrow from (end_text states b.to) (call ++ codes " = " ++ b.label)

-- an arrow for where calls lead, or one for each label
abbrev pub target_arrows : List State → (from call : List ℕ) → Target → List ℕ
target_arrows states from call (One to) = arrow from (end_text states to) call
target_arrows states from call (ByAnswer branches) = flat_map (branch_arrow states from call) branches

abbrev pub method_arrows : List State → (from : Name) → Method → List ℕ
method_arrows states from m = target_arrows states from (call_text m) m.target

-- a state that objects may be left in has an arrow to the end
abbrev pub drop_arrow : (from : Name) → Bool → List ℕ
drop_arrow from true = arrow from (codes "[*]") (codes "drop")
drop_arrow from false = []

abbrev pub state_arrows : List State → State → List ℕ
state_arrows states s = flat_map (method_arrows states s.name) s.methods ++ drop_arrow s.name s.drops

-- where an object begins, if there is a state
abbrev pub first_arrow : List State → (initial : To) → List ℕ
first_arrow states (tos.State n) = codes "    [*] --> " ++ end_text states (tos.State n) ++ codes "\n"
first_arrow states tos.End = []

-- the diagram of a typestate
abbrev pub diagram : Typestate → List ℕ
diagram t = codes "stateDiagram-v2\n" ++ first_arrow t.states (initial t) ++ flat_map (state_arrows t.states) t.states
