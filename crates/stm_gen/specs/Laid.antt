-- A typestate of a local protocol: a state for each of its states, with a method for each step there, which leads to a state with the text
-- that
-- is reached. Where two states have the same text left it may be either; Numbered says which.
use Rattle.std.specs.Prelude.{◌≡◌, ℕ, suc, List, [], ◌∷◌, ◌++◌, codes, false}
use Rattle.std.specs.Fmt.{decimal}
use Rattle.mg_text.specs.Call.{Name}
use Rattle.scr_tree.specs.declared.syntax.Payload.{Payload}
use Rattle.scr_tree.specs.declared.syntax.Payload.TheVariants as payloads
use Rattle.scr_tree.specs.Tree.{LocalTree}
use Rattle.scr_tree.specs.Protocol.{Message, Send, Take, Parts}
use Rattle.scr_tree.specs.Steps.{Act, Moves, Looks, Position}
use Rattle.scr_tree.specs.CallNames.{message_call, label_call}
use Rattle.scr_tree.specs.Meaning.{protocol_of}
use Rattle.scr_trace.specs.declared.standing.Standing.{Standing}
use Rattle.scr_trace.specs.declared.standing.Standing.TheVariants as standings
use Rattle.scr_trace.specs.Positions.{state_positions}
use Rattle.scr_trace.specs.Onward.{steps_at}
use Rattle.scr_trace.specs.Graph.{Edge, AreSteps}
use Rattle.ts_tree.specs.declared.parts.TypeName.{TypeName}
use Rattle.ts_tree.specs.declared.parts.TypeName.TheVariants as types
use Rattle.ts_tree.specs.declared.parts.Branch.{Branch}
use Rattle.ts_tree.specs.declared.parts.To.{To}
use Rattle.ts_tree.specs.declared.parts.To.TheVariants as tos
use Rattle.ts_tree.specs.Typestate.{One, ByAnswer, Method, State, Typestate}

-- the type of what a message carries, as the result of a method
abbrev pub carried_type : Payload → TypeName
carried_type payloads.Nothing = types.Void
carried_type payloads.Int = types.Int
carried_type payloads.Boolean = types.Boolean
carried_type payloads.Text = types.Text

-- the parameters of the method that sends what a message carries
abbrev pub carried_params : Payload → List TypeName
carried_params payloads.Nothing = []
carried_params payloads.Int = types.Int ∷ []
carried_params payloads.Boolean = types.Boolean ∷ []
carried_params payloads.Text = types.Text ∷ []

-- a send takes what it sends and answers nothing, a receive answers what it receives
abbrev pub result_of : Message → TypeName
result_of (Send peer label kind) = types.Void
result_of (Take peer label kind) = carried_type kind

abbrev pub params_of : Message → List TypeName
params_of (Send peer label kind) = carried_params kind
params_of (Take peer label kind) = []

-- the state of this number, or the end
abbrev pub to_of : Standing → To
to_of (standings.State k) = tos.State k
to_of standings.End = tos.End

-- the method of a message, which leads there
abbrev pub method_of : Message → Standing → Method
method_of m to = record { result = result_of m; name = message_call m; params = params_of m; target = One (to_of to) }

-- the enum whose constants are the labels of a choice that another role makes
abbrev pub choice_enum : Name → ℕ → Name
choice_enum me number = me ++ codes "Choice" ++ decimal number

-- the label of a look, and where it leads, before others
abbrev pub branch_before : Act → Standing → List Branch → List Branch
branch_before (Looks number peer label) to more = record { label = label; to = to_of to } ∷ more
branch_before (Moves message) to more = more

-- the labels of looks, and where each leads
abbrev pub branches_of : List Edge → List Branch
branches_of [] = []
branches_of (edge ∷ edges) = branch_before edge.act edge.to (branches_of edges)

-- the method of the looks at a choice
abbrev pub label_method : Name → ℕ → Name → List Branch → Method
label_method me number peer branches = record {
  result = types.Named (choice_enum me number);
  name = label_call me number peer;
  params = [];
  target = ByAnswer branches;
}

-- the method of a message before those of other steps, or the one method of all looks
abbrev pub methods_by : Name → Act → Standing → List Method → List Branch → List Method
methods_by me (Moves message) to more branches = method_of message to ∷ more
methods_by me (Looks number peer label) to more branches = label_method me number peer branches ∷ []

-- the methods of the steps of a state; at a choice elsewhere all edges are looks, and make one method
abbrev pub methods_of : Name → List Edge → List Method
methods_of me [] = []
methods_of me (edge ∷ edges) = methods_by me edge.act edge.to (methods_of me edges) (branches_of (edge ∷ edges))

abbrev pub state_name : ℕ → Name
state_name k = codes "State" ++ decimal k

-- the state at a position: its methods are those of the steps there, in the order of the text; it isn't marked drop
pub record IsLaidState (me : Name) (parts : Parts) (all : List Position) (position : Position) (k : ℕ) (s : State) : Type 0 where
  pub name : s.name ≡ state_name k
  pub edges : List Edge
  pub steps : AreSteps parts all (steps_at position) edges
  pub methods : s.methods ≡ methods_of me edges
  pub drops : s.drops ≡ false

-- the states at positions, of which the first has this number
abbrev pub AreLaid : Name → Parts → List Position → List Position → ℕ → List State → Type 0
AreLaid me parts all [] k [] = Unit {0}
AreLaid me parts all (position ∷ positions) k (s ∷ ss) = IsLaidState me parts all position k s × AreLaid me parts all positions (suc k) ss
AreLaid me parts all _ k _ = ⊥

-- a typestate whose states are those of a local protocol, as far as the text that is left tells them apart
pub record IsLaid (local : LocalTree) (t : Typestate) : Type 0 where
  pub name : t.name ≡ local.me ++ codes "Protocol"
  pub states : AreLaid local.me (protocol_of local) (state_positions (protocol_of local)) (state_positions (protocol_of local)) 0 t.states
