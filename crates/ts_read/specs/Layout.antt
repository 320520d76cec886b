-- How a typestate is laid out as a text.
use Rattle.std.specs.Prelude.{ℕ, Bool, true, false, List, [], ◌∷◌, ◌++◌, Option, Some, None, codes, map, slice_get}
use Rattle.std.specs.List.{flat_map}
use Rattle.mg_text.specs.Call.{Name}
use Rattle.ts_tree.specs.declared.parts.To.{To}
use Rattle.ts_tree.specs.declared.parts.To.TheVariants as tos
use Rattle.ts_tree.specs.declared.parts.Branch.{Branch}
use Rattle.ts_tree.specs.declared.parts.TypeName.{TypeName}
use Rattle.ts_tree.specs.declared.parts.TypeName.TheVariants as types
use Rattle.ts_tree.specs.Typestate.{Target, One, ByAnswer, Method, State, Typestate}

abbrev pub line_feed : List ℕ
line_feed = 10 ∷ []

abbrev pub type_text : TypeName → List ℕ
type_text types.Void = codes "void"
type_text types.Int = codes "int"
type_text types.Boolean = codes "boolean"
type_text types.Text = codes "String"
type_text (types.Named name) = name

-- texts with a comma and a space between two
abbrev pub listed : List (List ℕ) → List ℕ
listed [] = []
listed (x ∷ []) = x
listed (x ∷ y ∷ xs) = x ++ codes ", " ++ listed (y ∷ xs)

abbrev pub name_of : Option State → Name
name_of (Some s) = s.name
name_of None = []

-- a place, by the name of its state
abbrev pub to_text : List State → To → List ℕ
to_text states (tos.State n) = name_of (slice_get states n)
to_text states tos.End = codes "end"

abbrev pub branch_text : List State → Branch → List ℕ
branch_text states b = b.label ++ codes ": " ++ to_text states b.to

abbrev pub target_text : List State → Target → List ℕ
target_text states (One to) = to_text states to
target_text states (ByAnswer branches) = codes "<" ++ listed (map (branch_text states) branches) ++ codes ">"

-- a method, two levels in
abbrev pub method_text : List State → Method → List ℕ
method_text states m =
    codes "        " ++ type_text m.result ++ codes " " ++ m.name ++ codes "(" ++ listed (map type_text m.params) ++ codes "): "
    ++ target_text states m.target

-- `drop: end`, where a state is marked so
abbrev pub drop_line : Bool → List (List ℕ)
drop_line true = codes "        drop: end" ∷ []
drop_line false = []

-- the methods of a state, and then `drop: end`
abbrev pub entry_lines : List State → List Method → Bool → List (List ℕ)
entry_lines states methods drops = map (method_text states) methods ++ drop_line drops

-- texts, each on a line of its own, with a comma behind each but the last
abbrev pub lines : List (List ℕ) → List ℕ
lines [] = []
lines (x ∷ []) = x ++ line_feed
lines (x ∷ y ∷ xs) = x ++ codes "," ++ line_feed ++ lines (y ∷ xs)

abbrev pub state_text : List State → State → List ℕ
state_text states s =
    codes "    " ++ s.name ++ codes " = {" ++ line_feed ++ lines (entry_lines states s.methods s.drops) ++ codes "    }" ++ line_feed

-- the text of a typestate
abbrev pub layout : Typestate → List ℕ
layout t = codes "typestate " ++ t.name ++ codes " {" ++ line_feed ++ flat_map (state_text t.states) t.states ++ codes "}" ++ line_feed
