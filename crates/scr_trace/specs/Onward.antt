-- The steps of a position in the order of the text.
use Rattle.std.specs.Prelude.{ℕ, List, [], ◌∷◌, map}
use Rattle.mg_text.specs.Call.{Name, Call}
use Rattle.scr_tree.specs.Protocol.{peer_of, label_of, Does, ChoiceHere, ChoiceThere, Branches, NoMore, Branch, Parts}
use Rattle.scr_tree.specs.Steps.{Act, Moves, Looks, Plain, Left, Position, Silent}
use Rattle.scr_tree.specs.CallNames.{call_of}

-- what is seen of a step, and where it leads
pub record Onward : Type 0 where
  pub act : Act
  pub to : Position

-- by the first messages of branches
abbrev pub sends : Position → Branches → List Onward
sends around NoMore = []
sends around (Branch (Does message rest) more) = record { act = Moves message; to = Left rest Plain ∷ around } ∷ sends around more
sends around (Branch other more) = sends around more

-- by the looks at branches
abbrev pub looks : ℕ → Position → Branches → List Onward
looks number around NoMore = []
looks number around (Branch (Does message rest) more) =
    record { act = Looks number (peer_of message) (label_of message); to = Left (Does message rest) Plain ∷ around } ∷ looks number around
    more
looks number around (Branch other more) = looks number around more

-- the steps of the message or the choice that stands in front
abbrev pub steps_at : Position → List Onward
steps_at (Left (Does message rest) part ∷ around) = record { act = Moves message; to = Left rest part ∷ around } ∷ []
steps_at (Left (ChoiceHere branches rest) part ∷ around) = sends (Left rest part ∷ around) branches
steps_at (Left (ChoiceThere number branches rest) part ∷ around) = looks number (Left rest part ∷ around) branches
steps_at _ = []

-- the steps behind all silent moves
pub data Ahead (parts : Parts) : Position → List Onward → Type 0 where
  settled : {position : Position} → ((to : Position) → Silent parts position to → ⊥) → Ahead parts position (steps_at position)
  behind : {from to : Position} {steps : List Onward} → Silent parts from to → Ahead parts to steps → Ahead parts from steps

-- their calls
abbrev pub calls_of : Name → List Onward → List Call
calls_of me steps = map (λ s. call_of me s.act) steps
