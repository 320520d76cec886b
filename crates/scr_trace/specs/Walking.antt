-- Where a walk stands, and which calls it has taken.
use Rattle.std.specs.Prelude.{◌≡◌, ◌↔◌, List, [], ◌∷◌, ◌++◌, map, Some, None, option_map, Contains}
use Rattle.mg_text.specs.Call.{Name, Call}
use Rattle.scr_tree.specs.Tree.{LocalTree}
use Rattle.scr_tree.specs.Local.{tree_of}
use Rattle.scr_tree.specs.Meaning.{protocol_of}
use Rattle.scr_tree.specs.Steps.{Act, Position, start, Step, Run}
use Rattle.scr_tree.specs.CallNames.{call_of}
use Rattle.scr_trace.specs.declared.call.Call.{Call as Kept}
use Rattle.scr_trace.specs.declared.call.Offer.{Offer}
use Rattle.scr_trace.specs.declared.walk.Walk.{Walk}
use Rattle.scr_trace.specs.Onward.{Onward, Ahead, calls_of}
use Rattle.scr_trace.specs.Positions.{state_positions, ComesTo}
use Rattle.scr_trace.specs.Graph.{Graph, Automates}
use Rattle.scr_trace.specs.inner.View.{work_of, graph_of_work}

-- the call that a program's value says
abbrev pub call_said : Kept → Call
call_said call = record { method = call.method.now; answer = option_map (λ a. a.now) call.answer }

-- calls, one after another
abbrev pub Calls : Type 0
Calls = List Call

-- the automaton that a walk goes along
abbrev pub graph_of : Walk → Graph
graph_of walk = graph_of_work (work_of walk.laid)

-- the walk, of a local protocol, stands at a position: it goes along the protocol's automaton, and silent moves come from the position to
-- its state
pub record Stands (local : LocalTree) (walk : Walk) (position : Position) : Type 0 where
  pub of : tree_of walk.local.now ≡ local
  pub along : Automates (protocol_of local) (graph_of walk)
  pub comes : ComesTo (protocol_of local) (state_positions (protocol_of local)) position walk.standing

-- some step from a position has the call, and the walk stands where it leads
pub record StepsOn (local : LocalTree) (position : Position) (call : Call) (walk : Walk) : Type 0 where
  pub act : Act
  pub to : Position
  pub step : Step (protocol_of local) position act to
  pub named : call_of local.me act ≡ call
  pub stands : Stands local walk to

-- The walk has taken these calls from the start: some steps have them, and wherever steps with these calls lead, the walk stands.
pub record HasTaken (local : LocalTree) (walk : Walk) (calls : List Call) : Type 0 where
  pub acts : List Act
  pub position : Position
  pub run : Run (protocol_of local) (start (protocol_of local)) acts position
  pub named : map (call_of local.me) acts ≡ calls
  pub each : (others : List Act) (end : Position) → Run (protocol_of local) (start (protocol_of local)) others end →
      map (call_of local.me) others ≡ calls → Stands local walk end

-- The calls of the steps of a position, in the order of the text: behind all silent moves, `steps` are those of the message or the choice
-- in front, and they are all steps of the position.
pub record Offered (local : LocalTree) (position : Position) (calls : List Call) : Type 0 where
  pub steps : List Onward
  pub ahead : Ahead (protocol_of local) position steps
  pub each : (act : Act) (to : Position) → Contains steps (record { act = act; to = to }) ↔ Step (protocol_of local) position act to
  pub named : calls_of local.me steps ≡ calls

-- the calls of an offer: of the method alone, or one with each of its answers
abbrev pub answered : Name → List Name → List Call
answered method [] = []
answered method (label ∷ labels) = record { method = method; answer = Some label } ∷ answered method labels

abbrev pub calls_in : Name → List Name → List Call
calls_in method [] = record { method = method; answer = None } ∷ []
calls_in method (label ∷ labels) = answered method (label ∷ labels)

abbrev pub methods_of : List Offer → List Name
methods_of offers = map (λ o. o.method) offers

abbrev pub calls_offered : List Offer → List Call
calls_offered [] = []
calls_offered (offer ∷ offers) = calls_in offer.method offer.answers.items ++ calls_offered offers
