-- For private clauses: the first message or choice whose roles are at fault.
use Rattle.std.specs.Prelude.{Bool, not, if◌then◌else◌, [], Option, Some, None}
use Rattle.std.specs.Option.{option_or}
use Rattle.std.specs.HashSet.{contains_text}
use Rattle.std.specs.Str.{bytes_eq}
use Rattle.mg_text.specs.Call.{Name}
use Rattle.mg_read.specs.Culprit.{Culprit, culprit}
use Rattle.scr_judge.specs.inner.OnSpot.{unless}
use Rattle.scr_judge.specs.inner.Seen.{Names}
use Rattle.scr_global.specs.Tree.{Told, Statements, Nothing, Says, Choice, Rec, Continue, Branches, NoBranch, Branch}
use Rattle.scr_global_judge.specs.declared.roles.Check.{Check}
use Rattle.scr_global_judge.specs.declared.roles.Check.TheVariants as checks

-- what is asked of messages, and of choices
abbrev pub unknown_in : Names → Told → Option Culprit
unknown_in roles m = option_or (unless (roles m.from) (culprit m.place m.from)) (unless (roles m.to) (culprit m.place m.to))

abbrev pub unknown_role : Names → Statements → Option Culprit
unknown_role roles (Says m rest) = unknown_in roles m
unknown_role roles (Choice place at branches rest) = unless (roles at) (culprit place at)
unknown_role roles _ = None

abbrev pub peer_is_self : Statements → Option Culprit
peer_is_self (Says m rest) = unless (not (bytes_eq m.from m.to)) (culprit m.place [])
peer_is_self _ = None

-- what one statement answers
abbrev pub test : Check → Statements → Option Culprit
test (checks.UnknownRole roles) = unknown_role (contains_text roles.now)
test checks.PeerIsSelf = peer_is_self

-- what one walk finds, by what each statement answers
module _ (ask : Statements → Option Culprit) where
  abbrev mutual
    pub walk : Statements → Option Culprit
    walk Nothing = None
    walk (Says m rest) = option_or (ask (Says m rest)) (walk rest)
    walk (Choice place at branches rest) = option_or (ask (Choice place at branches rest)) (option_or (walk_in branches) (walk rest))
    walk (Rec place name body rest) = option_or (ask (Rec place name body rest)) (option_or (walk body) (walk rest))
    walk (Continue place name rest) = option_or (ask (Continue place name rest)) (walk rest)

    pub walk_in : Branches → Option Culprit
    walk_in NoBranch = None
    walk_in (Branch b more) = option_or (walk b) (walk_in more)
