-- For private clauses: how the branches of another role's choice are merged.
use Rattle.std.specs.Prelude.{Bool, true, false, ◌&&◌, not, if◌then◌else◌, List, [], ◌∷◌, Option, Some, None}
use Rattle.std.specs.Str.{bytes_eq}
use Rattle.mg_text.specs.Call.{Name}
use Rattle.scr_tree.specs.declared.syntax.Direction.TheVariants as directions
use Rattle.scr_tree.specs.declared.syntax.Message.{Message}
use Rattle.scr_tree.specs.Tree.{Statements, Nothing, Says, Choice, Rec, Continue, Branches, NoBranch, Branch}
use Rattle.scr_judge.specs.inner.Seen.{Names, with_name}
use Rattle.scr_global.specs.Projecting.{all_same, first_peer, tells_apart}
use Rattle.scr_global.specs.Texts.{spoken, spoken_each}

-- both hold, or neither does
abbrev pub same_truth : Bool → Bool → Bool
same_truth true b = b
same_truth false b = not b

-- there is a branch, and all say the same
abbrev pub agreed : Name → Branches → Bool
agreed me NoBranch = false
agreed me (Branch b more) = all_same (spoken me b) (spoken_each me more)

-- the peer from which each branch takes a first message, each with a label of its own
abbrev pub telling : Name → Branches → Option Name
telling me NoBranch = None
telling me (Branch b more) =
    if tells_apart (first_peer (spoken me b)) (spoken_each me (Branch b more)) then Some (first_peer (spoken me b)) else None

-- the message that statements begin with, if the role takes it
abbrev pub taken : Message → Option Message
taken m = elim (m.direction) [ directions.To ↦ None | directions.From ↦ Some m ]

abbrev pub first_taken : Statements → Option Message
first_taken (Says m rest) = taken m
first_taken _ = None

-- each branch takes a first message from the peer, with a label that is none of these and none of the branches before
abbrev pub tells : Name → Names → Branches → Bool
tells peer has NoBranch = true
tells peer has (Branch b more) =
    elim (first_taken b) [ None ↦ false | Some m ↦ bytes_eq m.peer peer && (not (has m.label) && tells peer (with_name m.label has) more) ]
