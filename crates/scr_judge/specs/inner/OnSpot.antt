-- Conditions that a statement decides, with the names of the recs around it and the choice whose branch it begins.
use Rattle.std.specs.Prelude.{Bool, true, false, ◌&&◌, ◌||◌, not, if◌then◌else◌, List, [], ◌∷◌, Option, Some, None}
use Rattle.std.specs.List.{list_any}
use Rattle.std.specs.Option.{option_or, is_some}
use Rattle.std.specs.HashSet.{contains_text}
use Rattle.std.specs.Str.{bytes_eq}
use Rattle.mg_text.specs.Call.{Name}
use Rattle.mg_text.specs.JavaWords.{java_words}
use Rattle.mg_read.specs.Culprit.{Culprit, culprit}
use Rattle.scr_tree.specs.declared.syntax.Direction.{Direction}
use Rattle.scr_tree.specs.declared.syntax.Direction.TheVariants as directions
use Rattle.scr_tree.specs.Tree.{Statements, Nothing, Says, Choice, Rec, Continue, Do, Branches, NoBranch, Branch}
use Rattle.scr_judge.specs.inner.Names.{is_among}
use Rattle.scr_judge.specs.inner.Seen.{Names, noted_in}
use Rattle.scr_judge.specs.declared.on_spot.Check.{Check}
use Rattle.scr_judge.specs.declared.on_spot.Check.TheVariants as checks

abbrev pub is_send : Direction → Bool
is_send directions.To = true
is_send directions.From = false

abbrev pub all_send : Branches → Bool
all_send NoBranch = true
all_send (Branch (Says m rest) more) = is_send m.direction && all_send more
all_send (Branch b more) = all_send more

-- receives from one role, from this one if one is known
abbrev pub one_peer : Option Name → Branches → Bool
one_peer known NoBranch = true
one_peer None (Branch (Says m rest) more) = if is_send m.direction then false else one_peer (Some m.peer) more
one_peer (Some peer) (Branch (Says m rest) more) = if is_send m.direction then false else
    (if bytes_eq m.peer peer then one_peer (Some peer) more else false)
one_peer known (Branch b more) = one_peer known more

abbrev pub uniform : Name → Name → Branches → Bool
uniform me at branches = if bytes_eq at me then all_send branches else one_peer None branches

-- whether statements are none
abbrev pub is_nothing : Statements → Bool
is_nothing Nothing = true
is_nothing _ = false

abbrev pub some_empty : Branches → Bool
some_empty NoBranch = false
some_empty (Branch b more) = is_nothing b || some_empty more

abbrev pub unless : Bool → Culprit → Option Culprit
unless fine c = if fine then None else Some c

abbrev pub unknown_role : Names → Statements → Option Culprit
unknown_role roles (Says m rest) = unless (roles m.peer) (culprit m.place m.peer)
unknown_role roles (Choice place at branches rest) = unless (roles at) (culprit place at)
unknown_role roles _ = None

abbrev pub peer_is_self : Name → Statements → Option Culprit
peer_is_self me (Says m rest) = unless (not (bytes_eq m.peer me)) (culprit m.place [])
peer_is_self me _ = None

abbrev pub unknown_rec : List Name → Statements → Option Culprit
unknown_rec around (Continue place name rest) = unless (is_among name around) (culprit place name)
unknown_rec around _ = None

abbrev pub unknown_protocol : Names → Statements → Option Culprit
unknown_protocol names (Do place name rest) = unless (names name) (culprit place name)
unknown_protocol names _ = None

abbrev pub duplicate_rec : List Name → Statements → Option Culprit
duplicate_rec around (Rec place name body rest) = unless (not (is_among name around)) (culprit place name)
duplicate_rec around _ = None

-- `first` says that the statement begins a branch
abbrev pub branch_start : Bool → Statements → Option Culprit
branch_start first (Choice place at branches rest) = unless (not (first || some_empty branches)) (culprit place [])
branch_start first (Rec place name body rest) = unless (not first) (culprit place [])
branch_start first (Continue place name rest) = unless (not first) (culprit place [])
branch_start first (Do place name rest) = unless (not first) (culprit place [])
branch_start first _ = None

abbrev pub mixed_choice : Name → Statements → Option Culprit
mixed_choice me (Choice place at branches rest) = unless (uniform me at branches) (culprit place [])
mixed_choice me _ = None

-- a label may begin a branch of a choice
unfoldable pub is_free_label : Name → Name → Name → Bool
is_free_label me at label = bytes_eq at me || not (list_any (bytes_eq label) java_words)

-- the label of a message that begins a branch of a choice at a role
abbrev pub free_label : Name → Name → Statements → Option Culprit
free_label me at (Says m rest) = unless (is_free_label me at m.label) (culprit m.place m.label)
free_label me at _ = None

abbrev pub reserved_label : Name → Option Name → Statements → Option Culprit
reserved_label me None ss = None
reserved_label me (Some at) ss = free_label me at ss

-- what is asked of a statement, of the choice whose branch it begins and the names of the recs around
abbrev pub Asks : Type 0
Asks = Option Name → List Name → Statements → Option Culprit

abbrev pub asks_role : Names → Asks
asks_role roles begins around = unknown_role roles

abbrev pub asks_protocol : Names → Asks
asks_protocol names begins around = unknown_protocol names

-- what one statement answers
abbrev pub test : Check → Asks
test (checks.UnknownRole roles) begins around = unknown_role (noted_in roles.now)
test (checks.PeerIsSelf me) begins around = peer_is_self me.now
test checks.UnknownRec begins around = unknown_rec around
test checks.DuplicateRec begins around = duplicate_rec around
test checks.BranchStart begins around = branch_start (is_some begins)
test (checks.MixedChoice me) begins around = mixed_choice me.now
test (checks.UnknownProtocol names) begins around = unknown_protocol (contains_text names.now)
test (checks.ReservedLabel me) begins around = reserved_label me.now begins

-- what one walk finds, by what each statement answers
module _ (ask : Asks) where
  abbrev mutual
    pub walk : Option Name → List Name → Statements → Option Culprit
    walk begins around Nothing = None
    walk begins around (Says m rest) = option_or (ask begins around (Says m rest)) (walk None around rest)
    walk begins around (Choice place at branches rest) =
        option_or (ask begins around (Choice place at branches rest)) (option_or (walk_in at around branches) (walk None around rest))
    walk begins around (Rec place name body rest) =
        option_or (ask begins around (Rec place name body rest)) (option_or (walk None (name ∷ around) body) (walk None around rest))
    walk begins around (Continue place name rest) = option_or (ask begins around (Continue place name rest)) (walk None around rest)
    walk begins around (Do place name rest) = option_or (ask begins around (Do place name rest)) (walk None around rest)

    pub walk_in : Name → List Name → Branches → Option Culprit
    walk_in at around NoBranch = None
    walk_in at around (Branch b more) = option_or (walk (Some at) around b) (walk_in at around more)
