-- What a role does, action by action in the order of the text, each with the name of its call.
use Rattle.std.specs.Prelude.{◌≡◌, ◌≢◌, ℕ, ◌+◌, Bool, if◌then◌else◌, List, [], ◌∷◌, ◌++◌, Option, Some, None, Contains}
use Rattle.std.specs.Str.{bytes_eq}
use Rattle.mg_text.specs.Call.{Name}
use Rattle.mg_text.specs.declared.place.Place.{Place}
use Rattle.mg_read.specs.Culprit.{Culprit, culprit}
use Rattle.scr_tree.specs.declared.syntax.Message.{Message as Said}
use Rattle.scr_tree.specs.Protocol.{Message}
use Rattle.scr_tree.specs.CallNames.{message_call, label_call}
use Rattle.scr_tree.specs.Meaning.{message_of}
use Rattle.scr_tree.specs.Tree.{Statements, Nothing, Says, Choice, Rec, Continue, Do, Branches, NoBranch, Branch}

-- a message that is sent or taken, or the look at which branch of a numbered choice was taken
pub data Deed : Type 0 where
  Moves : Message → Deed
  Looks : (number : ℕ) → Deed

pub record Action : Type 0 where
  pub place : Place
  pub call : Name
  pub deed : Deed

-- what a message is
abbrev pub said : Said → Action
said m = record { place = m.place; call = message_call (message_of m); deed = Moves (message_of m) }

-- the peer of the first message of a choice
abbrev pub peer_in : Branches → Option Name
peer_in (Branch (Says m rest) more) = Some m.peer
peer_in _ = None

-- the look at the label of a choice elsewhere
abbrev pub looked : Name → ℕ → Place → Option Name → List Action
looked me n place None = []
looked me n place (Some peer) = record { place = place; call = label_call me n peer; deed = Looks n } ∷ []

-- which number the next choice has, behind the opening of one
abbrev pub opened : Bool → ℕ → ℕ
opened self n = if self then n else n + 1

abbrev pub looked_unless : Bool → Name → ℕ → Place → Option Name → List Action
looked_unless self me n place peer = if self then [] else looked me n place peer

abbrev mutual
  -- which number the next choice elsewhere has, behind statements
  pub next : Name → ℕ → Statements → ℕ
  next me n Nothing = n
  next me n (Says m rest) = next me n rest
  next me n (Choice place at branches rest) = next me (next_in me (opened (bytes_eq at me) n) branches) rest
  next me n (Rec place name body rest) = next me (next me n body) rest
  next me n (Continue place name rest) = next me n rest
  next me n (Do place name rest) = next me n rest

  pub next_in : Name → ℕ → Branches → ℕ
  next_in me n NoBranch = n
  next_in me n (Branch b more) = next_in me (next me n b) more

abbrev mutual
  -- the actions; choices elsewhere are numbered from n on
  pub actions : Name → ℕ → Statements → List Action
  actions me n Nothing = []
  actions me n (Says m rest) = said m ∷ actions me n rest
  actions me n (Choice place at branches rest) =
      looked_unless (bytes_eq at me) me n place (peer_in branches)
      ++ (actions_in me (opened (bytes_eq at me) n) branches ++ actions me (next_in me (opened (bytes_eq at me) n) branches) rest)
  actions me n (Rec place name body rest) = actions me n body ++ actions me (next me n body) rest
  actions me n (Continue place name rest) = actions me n rest
  actions me n (Do place name rest) = actions me n rest

  pub actions_in : Name → ℕ → Branches → List Action
  actions_in me n NoBranch = []
  actions_in me n (Branch b more) = actions me n b ++ actions_in me (next me n b) more

-- the actions of protocols, one after another, each of the role that it is of
abbrev pub all_actions : {P : Type 0} → (P → Name) → (P → Statements) → ℕ → List P → List Action
all_actions me body n [] = []
all_actions me body n (p ∷ ps) = actions (me p) n (body p) ++ all_actions me body (next (me p) n (body p)) ps

-- NameClash: two different actions have one call name; the second is at fault
abbrev pub NameClash : List Action × Action → Culprit → Type 0
NameClash q c = (c ≡ culprit q.1.place q.1.call) × (other : Action) × Contains q.0 other × (other.call ≡ q.1.call) × (other.deed ≢ q.1.deed)
