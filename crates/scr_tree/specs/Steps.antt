-- What a role may do, step by step. A position is the text that is left: no state has a number here.
use Rattle.std.specs.Prelude.{◌≡◌, ℕ, List, [], ◌∷◌, true, false, Option, Some, None}
use Rattle.std.specs.Str.{bytes_eq}
use Rattle.mg_text.specs.Call.{Name}
use Rattle.scr_tree.specs.Protocol.{Message, peer_of, label_of, Protocol, Done, Does, ChoiceHere, ChoiceThere, Rec, Continue, Do, Branches}
use Rattle.scr_tree.specs.Protocol.{Branch, Named, Parts}

-- what is seen of a step: a message, or a look at which branch of a numbered choice a peer has taken
pub data Act : Type 0 where
  Moves : Message → Act
  Looks : (number : ℕ) → (peer label : Name) → Act

-- what the statements of a frame are
pub data Part : Type 0 where
  -- the whole protocol, or a branch of a choice
  Plain : Part
  -- the body of a rec of this name, which is the whole body where it begins again
  BodyOf : (name : Name) → (whole : Protocol) → Part

-- the statements that are left of a part
pub data Frame : Type 0 where
  Left : (left : Protocol) → (part : Part) → Frame

-- the frames, innermost first: what is left of the innermost part, then of the one around it, and so on
abbrev pub Position : Type 0
Position = List Frame

-- where these statements begin, with nothing around them
abbrev pub whole : Protocol → Position
whole protocol = Left protocol Plain ∷ []

-- where a whole protocol starts
abbrev pub start : Parts → Position
start [] = []
start (part ∷ parts) = whole part.body

-- the body of the part of this name
abbrev pub body_named : Name → Parts → Option Protocol
body_named name [] = None
body_named name (part ∷ parts) = elim (bytes_eq name part.name) [ true ↦ Some part.body | false ↦ body_named name parts ]

-- the frames from that of the innermost rec of this name on, which has its whole body again; there are none where there is no such rec
abbrev pub again : Name → Position → Option Position
again name [] = None
again name (Left left Plain ∷ around) = again name around
again name (Left left (BodyOf other body) ∷ around) =
    elim (bytes_eq name other) [ true ↦ Some (Left body (BodyOf other body) ∷ around) | false ↦ again name around ]

-- a move that nobody sees, in the protocol of these parts
pub data Silent (parts : Parts) : Position → Position → Type 0 where
  -- an empty first frame is dropped
  ends : {part : Part} {around : List Frame} → Silent parts (Left Done part ∷ around) around
  -- a rec in front is removed, and a frame of its body is put first
  begins : {name : Name} {body rest : Protocol} {part : Part} {around : List Frame} →
      Silent parts (Left (Rec name body rest) part ∷ around) (Left body (BodyOf name body) ∷ Left rest part ∷ around)
  -- a continue drops the frames before that of its rec, which gets its whole body again
  continues : {name : Name} {rest : Protocol} {part : Part} {around : List Frame} {to : Position} →
      again name (Left rest part ∷ around) ≡ Some to → Silent parts (Left (Continue name rest) part ∷ around) to
  -- a do drops all frames, and one frame of the body of its part takes their place
  goes_on : {name : Name} {rest body : Protocol} {part : Part} {around : List Frame} →
      body_named name parts ≡ Some body → Silent parts (Left (Do name rest) part ∷ around) (whole body)

-- one of the branches is this message and then these statements
pub data HasBranch : Branches → Message → Protocol → Type 0 where
  this : {message : Message} {rest : Protocol} {more : Branches} → HasBranch (Branch (Does message rest) more) message rest
  later : {message : Message} {rest other : Protocol} {more : Branches} → HasBranch more message rest →
      HasBranch (Branch other more) message rest

-- a step that is seen, behind any silent moves
pub data Step (parts : Parts) : Position → Act → Position → Type 0 where
  silently : {from to end : Position} {act : Act} → Silent parts from to → Step parts to act end → Step parts from act end
  -- a message in front
  moves : {message : Message} {rest : Protocol} {part : Part} {around : List Frame} →
      Step parts (Left (Does message rest) part ∷ around) (Moves message) (Left rest part ∷ around)
  -- the role chooses by the first message of a branch, and the rest of the branch is the first frame
  chooses : {branches : Branches} {message : Message} {branch rest : Protocol} {part : Part} {around : List Frame} →
      HasBranch branches message branch →
      Step parts (Left (ChoiceHere branches rest) part ∷ around) (Moves message) (Left branch Plain ∷ Left rest part ∷ around)
  -- the role looks at which branch was chosen, and the whole branch is the first frame
  looks : {number : ℕ} {branches : Branches} {message : Message} {branch rest : Protocol} {part : Part} {around : List Frame} →
      HasBranch branches message branch →
      Step parts (Left (ChoiceThere number branches rest) part ∷ around) (Looks number (peer_of message) (label_of message))
      (Left (Does message branch) Plain ∷ Left rest part ∷ around)

-- these steps, one after another
pub data Run (parts : Parts) : Position → List Act → Position → Type 0 where
  stays : {at : Position} → Run parts at [] at
  goes : {from to end : Position} {act : Act} {acts : List Act} → Step parts from act to → Run parts to acts end →
      Run parts from (act ∷ acts) end

-- silent moves leave no frames
pub data Finished (parts : Parts) : Position → Type 0 where
  nothing_left : Finished parts []
  after_silent : {from to : Position} → Silent parts from to → Finished parts to → Finished parts from
