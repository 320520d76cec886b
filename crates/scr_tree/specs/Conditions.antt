-- The conditions on a local protocol that a statement and the way to it decide: where each is at fault, and with which name.
use Rattle.std.specs.Prelude.{◌≡◌, ◌≢◌, ◌⊎◌, List, [], ◌∷◌, map, Option, Some, None, Contains, true, false}
use Rattle.std.specs.Str.{bytes_eq}
use Rattle.mg_text.specs.Call.{Name}
use Rattle.mg_text.specs.JavaWords.{java_words}
use Rattle.mg_text.specs.declared.place.Place.{Place}
use Rattle.mg_read.specs.Culprit.{Culprit, culprit}
use Rattle.scr_tree.specs.declared.syntax.Direction.TheVariants as directions
use Rattle.scr_tree.specs.declared.syntax.Message.{Message}
use Rattle.scr_tree.specs.Tree.{Statements, Nothing, Says, Choice, Rec, Continue, Do, Branches, NoBranch, Branch}
use Rattle.scr_tree.specs.Meaning.{message_of}
use Rattle.scr_tree.specs.CallNames.{message_call}
use Rattle.scr_tree.specs.Spots.{Spot, spot, Past, Opens, Enters, head_place}
use Rattle.scr_tree.specs.Control.{falls, Quietly}

-- UnknownRole: a peer or a choice names a role that is not listed
abbrev pub UnknownRole : List Name → Spot → Culprit → Type 0
UnknownRole roles (spot way (Says m rest)) c = (c ≡ culprit m.place m.peer) × (Contains roles m.peer → ⊥)
UnknownRole roles (spot way (Choice place at branches rest)) c = (c ≡ culprit place at) × (Contains roles at → ⊥)
UnknownRole roles _ c = ⊥

-- PeerIsSelf: a peer is the role itself
abbrev pub PeerIsSelf : Name → Spot → Culprit → Type 0
PeerIsSelf me (spot way (Says m rest)) c = (c ≡ culprit m.place []) × (m.peer ≡ me)
PeerIsSelf me _ c = ⊥

-- UnknownRec: `continue X` isn't inside `rec X`
abbrev pub UnknownRec : Spot → Culprit → Type 0
UnknownRec (spot way (Continue place name rest)) c = (c ≡ culprit place name) × (Contains way (Opens name) → ⊥)
UnknownRec _ c = ⊥

-- DuplicateRec: `rec X` inside `rec X`
abbrev pub DuplicateRec : Spot → Culprit → Type 0
DuplicateRec (spot way (Rec place name body rest)) c = (c ≡ culprit place name) × Contains way (Opens name)
DuplicateRec _ c = ⊥

-- Unguarded: no message stands on a path from the opening of `rec X` to `continue X`
abbrev pub Unguarded : Spot → Culprit → Type 0
Unguarded (spot way (Continue place name rest)) c = (c ≡ culprit place name) × Quietly name way
Unguarded _ c = ⊥

-- Unreachable: a statement stands after one that doesn't fall
abbrev pub Unreachable : Spot → Culprit → Type 0
Unreachable (spot (Past s ∷ way) here) c = (place : Place) × (head_place here ≡ Some place) × (c ≡ culprit place []) × (falls s ≡ false)
Unreachable _ c = ⊥

-- some branch is empty
abbrev pub HasEmpty : Branches → Type 0
HasEmpty NoBranch = ⊥
HasEmpty (Branch b more) = (b ≡ Nothing) ⊎ HasEmpty more

-- the statements begin with one that is no message
abbrev pub BeginsOtherwise : Statements → Type 0
BeginsOtherwise Nothing = ⊥
BeginsOtherwise (Says m rest) = ⊥
BeginsOtherwise _ = Unit {0}

-- a choice has an empty branch; the choice is at fault
abbrev pub EmptyBranch : Statements → Culprit → Type 0
EmptyBranch (Choice place at branches rest) c = (c ≡ culprit place []) × HasEmpty branches
EmptyBranch _ c = ⊥

-- a branch begins with no message; its first statement is at fault
abbrev pub OtherStart : Spot → Culprit → Type 0
OtherStart (spot (Enters at earlier ∷ way) here) c = (place : Place) × (head_place here ≡ Some place) × (c ≡ culprit place [])
    × BeginsOtherwise here
OtherStart _ c = ⊥

-- BranchStart: a branch is empty, or begins with no message
abbrev pub BranchStart : Spot → Culprit → Type 0
BranchStart (spot way here) c = EmptyBranch here c ⊎ OtherStart (spot way here) c

-- the first messages of branches are sends
abbrev pub AllSend : Branches → Type 0
AllSend NoBranch = Unit {0}
AllSend (Branch (Says m rest) more) = (m.direction ≡ directions.To) × AllSend more
AllSend (Branch b more) = AllSend more

-- they are receives from one role
abbrev pub AllFrom : Name → Branches → Type 0
AllFrom peer NoBranch = Unit {0}
AllFrom peer (Branch (Says m rest) more) = (m.direction ≡ directions.From) × (m.peer ≡ peer) × AllFrom peer more
AllFrom peer (Branch b more) = AllFrom peer more

abbrev pub IsUniform : Name → Name → Branches → Type 0
IsUniform me at branches = ((at ≡ me) × AllSend branches) ⊎ ((at ≢ me) × (peer : Name) × AllFrom peer branches)

-- MixedChoice: neither are all first messages sends with the choice at self, nor all receives from one role with the choice elsewhere
abbrev pub MixedChoice : Name → Spot → Culprit → Type 0
MixedChoice me (spot way (Choice place at branches rest)) c = (c ≡ culprit place []) × (IsUniform me at branches → ⊥)
MixedChoice me _ c = ⊥

-- by what the branches of a choice are told apart: at self the call names of their first messages, elsewhere the labels
abbrev pub key : Name → Name → Message → Name
key me at m = elim (bytes_eq at me) [ true ↦ message_call (message_of m) | false ↦ m.label ]

abbrev pub first_key : Name → Name → Statements → Option Name
first_key me at (Says m rest) = Some (key me at m)
first_key me at _ = None

-- SameLabel: two first messages of a choice share it; the second is at fault
abbrev pub SameLabel : Name → Spot → Culprit → Type 0
SameLabel me (spot (Enters at earlier ∷ way) (Says m rest)) c =
    (c ≡ culprit m.place m.label) × Contains (map (first_key me at) earlier) (Some (key me at m))
SameLabel me _ c = ⊥

-- ReservedLabel: a first label of a choice elsewhere, which becomes a constant of an enum, is a reserved word of Java
abbrev pub ReservedLabel : Name → Spot → Culprit → Type 0
ReservedLabel me (spot (Enters at earlier ∷ way) (Says m rest)) c = (c ≡ culprit m.place m.label) × (at ≢ me) × Contains java_words m.label
ReservedLabel me _ c = ⊥
