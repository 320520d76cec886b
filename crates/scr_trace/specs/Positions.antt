-- The positions that are the states of a protocol, in the order of its text, which runs through all its parts, and to which of them silent
-- moves lead.
use Rattle.std.specs.Prelude.{◌≡◌, ℕ, List, [], ◌∷◌, ◌++◌, Some, slice_get}
use Rattle.scr_tree.specs.Protocol.{Protocol, Done, Does, ChoiceHere, ChoiceThere, Rec, Continue, Do, Branches, NoMore, Branch, Parts}
use Rattle.scr_tree.specs.Steps.{Part, Plain, BodyOf, Left, Position, Silent}
use Rattle.scr_trace.specs.declared.standing.Standing.{Standing}
use Rattle.scr_trace.specs.declared.standing.Standing.TheVariants as standings

-- The states in a part of the text, which has these frames around it: one in front of each choice, and one in front of each message
-- that isn't the first of a branch of a choice at self.
abbrev mutual
  pub states_in : Part → Position → Protocol → List Position
  states_in part around Done = []
  states_in part around (Does message rest) = (Left (Does message rest) part ∷ around) ∷ states_in part around rest
  states_in part around (ChoiceHere branches rest) =
      (Left (ChoiceHere branches rest) part ∷ around) ∷ (states_here (Left rest part ∷ around) branches ++ states_in part around rest)
  states_in part around (ChoiceThere number branches rest) =
      (Left (ChoiceThere number branches rest) part ∷ around) ∷ (states_there (Left rest part ∷ around) branches
      ++ states_in part around rest)
  states_in part around (Rec name body rest) = states_in (BodyOf name body) (Left rest part ∷ around) body ++ states_in part around rest
  states_in part around (Continue name rest) = states_in part around rest
  states_in part around (Do name rest) = states_in part around rest

  -- those in the branches of a choice at self
  pub states_here : Position → Branches → List Position
  states_here around NoMore = []
  states_here around (Branch branch more) = states_behind around branch ++ states_here around more

  -- those behind the first message of a branch
  pub states_behind : Position → Protocol → List Position
  states_behind around (Does message rest) = states_in Plain around rest
  states_behind around _ = []

  -- those in the branches of a choice elsewhere
  pub states_there : Position → Branches → List Position
  states_there around NoMore = []
  states_there around (Branch branch more) = states_from around branch ++ states_there around more

  -- those from the first message of a branch on
  pub states_from : Position → Protocol → List Position
  states_from around (Does message rest) = (Left (Does message rest) Plain ∷ around) ∷ states_in Plain around rest
  states_from around _ = []

-- the states of a whole protocol
abbrev pub state_positions : Parts → List Position
state_positions [] = []
state_positions (part ∷ parts) = states_in Plain [] part.body ++ state_positions parts

-- where silent moves lead from a position: to the state of this number, or to the end
pub data ComesTo (parts : Parts) (states : List Position) : Position → Standing → Type 0 where
  at_state : {number : ℕ} {position : Position} → slice_get states number ≡ Some position →
      ComesTo parts states position (standings.State number)
  at_end : ComesTo parts states [] standings.End
  silently : {from to : Position} {standing : Standing} → Silent parts from to → ComesTo parts states to standing →
      ComesTo parts states from standing
