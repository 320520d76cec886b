-- What a local protocol says that its role does. Places are left out, and choices made elsewhere are numbered.
use Rattle.std.specs.Prelude.{ℕ, List}
use Rattle.mg_text.specs.Call.{Name}
use Rattle.scr_tree.specs.declared.syntax.Payload.{Payload}

-- a message that the role sends to a peer, or takes from one
pub data Message : Type 0 where
  Send : (peer label : Name) → (kind : Payload) → Message
  Take : (peer label : Name) → (kind : Payload) → Message

abbrev pub peer_of : Message → Name
peer_of (Send peer label kind) = peer
peer_of (Take peer label kind) = peer

abbrev pub label_of : Message → Name
label_of (Send peer label kind) = label
label_of (Take peer label kind) = label

mutual
  -- a list of statements: none, or one and those that stand behind it
  pub data Protocol : Type 0 where
    Done : Protocol
    Does : Message → Protocol → Protocol
    -- the role itself chooses
    ChoiceHere : Branches → Protocol → Protocol
    -- another role chooses; such choices are numbered
    ChoiceThere : (number : ℕ) → Branches → Protocol → Protocol
    Rec : (name : Name) → (body : Protocol) → Protocol → Protocol
    Continue : (name : Name) → Protocol → Protocol
    -- goes on as the part of this name
    Do : (name : Name) → Protocol → Protocol

  -- the branches of a choice
  pub data Branches : Type 0 where
    NoMore : Branches
    Branch : Protocol → Branches → Branches

-- a part: what it says, by its name
pub record Named : Type 0 where
  pub name : Name
  pub body : Protocol

-- the parts of a whole protocol, which starts as the first of them
abbrev pub Parts : Type 0
Parts = List Named
