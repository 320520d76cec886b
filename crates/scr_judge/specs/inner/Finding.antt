-- What one walk over a text finds, for each condition that is judged so.
use Rattle.std.specs.Prelude.{Bool, if◌then◌else◌, List, [], ◌∷◌, Option, Some, None}
use Rattle.std.specs.Option.{option_or}
use Rattle.mg_text.specs.Call.{Name}
use Rattle.scr_tree.specs.Tree.{Statements, Nothing, Says, Choice, Rec, Continue, Do, Branches, NoBranch, Branch}
pub use Rattle.scr_tree.specs.Said.{first_said}
use Rattle.mg_read.specs.Culprit.{Culprit, culprit}
use Rattle.scr_tree.specs.Control.{falls, some_falls, passes, some_passes}
use Rattle.scr_tree.specs.declared.syntax.Message.{Message}
use Rattle.scr_tree.specs.Conditions.{key}
use Rattle.scr_judge.specs.inner.Names.{is_among}
use Rattle.scr_judge.specs.inner.Round.{is_goal, kept_goal}
use Rattle.scr_judge.specs.inner.Seen.{Names, none, with_name}

-- these names, unless no path without a message leads on
abbrev pub kept : Bool → List Name → List Name
kept quiet names = if quiet then names else []

abbrev mutual
  -- `names` are those of the recs from whose openings a path without a message leads here; `goal` is the name of a `do` that is at fault,
  -- where one leads here from the opening of the protocol
  pub unguarded : List Name → Option Name → Statements → Option Culprit
  unguarded names goal Nothing = None
  unguarded names goal (Says m rest) = unguarded [] None rest
  unguarded names goal (Choice p at branches rest) =
      option_or (unguarded_in names goal branches) (unguarded (kept (some_passes branches) names) (kept_goal (some_passes branches) goal)
      rest)
  unguarded names goal (Rec p name body rest) =
      option_or (unguarded (name ∷ names) goal body) (unguarded (kept (passes body) names) (kept_goal (passes body) goal) rest)
  unguarded names goal (Continue p name rest) = if is_among name names then Some (culprit p name) else unguarded [] None rest
  unguarded names goal (Do p name rest) = if is_goal goal name then Some (culprit p name) else unguarded [] None rest

  pub unguarded_in : List Name → Option Name → Branches → Option Culprit
  unguarded_in names goal NoBranch = None
  unguarded_in names goal (Branch b more) = option_or (unguarded names goal b) (unguarded_in names goal more)

-- what is at fault where control does not come to statements
abbrev pub stands : Statements → Option Culprit
stands Nothing = None
stands (Says m rest) = Some (culprit m.place [])
stands (Choice p at branches rest) = Some (culprit p [])
stands (Rec p name body rest) = Some (culprit p [])
stands (Continue p name rest) = Some (culprit p [])
stands (Do p name rest) = Some (culprit p [])

abbrev mutual
  pub unreachable : Statements → Option Culprit
  unreachable Nothing = None
  unreachable (Says m rest) = unreachable rest
  unreachable (Choice p at branches rest) =
      option_or (unreachable_in branches) (if some_falls branches then unreachable rest else stands rest)
  unreachable (Rec p name body rest) = option_or (unreachable body) (if falls body then unreachable rest else stands rest)
  unreachable (Continue p name rest) = stands rest
  unreachable (Do p name rest) = stands rest

  pub unreachable_in : Branches → Option Culprit
  unreachable_in NoBranch = None
  unreachable_in (Branch b more) = option_or (unreachable b) (unreachable_in more)

-- what is found where control comes to statements, or does not come
abbrev pub unreachable_behind : Bool → Statements → Option Culprit
unreachable_behind reached ss = if reached then unreachable ss else stands ss

-- the culprit that the first message of a branch is, where the branches before have the keys
abbrev pub head_fault : Name → Name → Names → Statements → Option Culprit
head_fault me at has (Says m rest) = if has (key me at m) then Some (culprit m.place m.label) else None
head_fault me at has _ = None

-- the keys with that of the branch
abbrev pub with_head : Name → Name → Names → Statements → Names
with_head me at has (Says m rest) = with_name (key me at m) has
with_head me at has _ = has

abbrev mutual
  -- messages that share a label or call name with the first message of an earlier branch
  pub same : Name → Statements → Option Culprit
  same me Nothing = None
  same me (Says m rest) = same me rest
  same me (Choice p at branches rest) = option_or (same_in me at none branches) (same me rest)
  same me (Rec p name body rest) = option_or (same me body) (same me rest)
  same me (Continue p name rest) = same me rest
  same me (Do p name rest) = same me rest

  pub same_in : Name → Name → Names → Branches → Option Culprit
  same_in me at has NoBranch = None
  same_in me at has (Branch b more) =
      option_or (head_fault me at has b) (option_or (same me b) (same_in me at (with_head me at has b) more))

abbrev pub head_of : Name → Name → Names → Option Message → Option Culprit
head_of me at has None = None
head_of me at has (Some m) = if has (key me at m) then Some (culprit m.place m.label) else None

abbrev pub with_key : Name → Name → Names → Option Message → Names
with_key me at has None = has
with_key me at has (Some m) = with_name (key me at m) has
