-- What is found of how the protocols of a file go on as one another.
use Rattle.std.specs.Prelude.{Bool, true, false, ◌&&◌, ◌||◌, if◌then◌else◌, List, [], ◌∷◌, map, Option, Some, None}
use Rattle.std.specs.Option.{option_or}
use Rattle.std.specs.Str.{bytes_eq}
use Rattle.mg_text.specs.Call.{Name}
use Rattle.mg_text.specs.declared.place.Place.{Place}
use Rattle.mg_read.specs.Culprit.{Culprit, culprit}
use Rattle.scr_tree.specs.declared.written.Arguments.{Arguments}
use Rattle.scr_tree.specs.declared.written.WrittenPart.{WrittenPart as Part}
use Rattle.scr_tree.specs.Tree.{Statements, Nothing, Says, Choice, Rec, Continue, Do, Branches, NoBranch, Branch}
use Rattle.scr_tree.specs.View.{statements}
use Rattle.scr_tree.specs.Written.{role_name}
use Rattle.scr_tree.specs.Going.{is_some_statement}
use Rattle.scr_judge.specs.inner.Seen.{Names, with_name}
use Rattle.scr_judge.specs.inner.Listed.{first_among}
use Rattle.scr_judge.specs.inner.OnSpot.{asks_protocol, walk, unless}

-- ---- names of protocols

abbrev pub part_name : Part → Name
part_name p = p.name

-- a set with the names of a list too
abbrev pub with_names : List Name → Names → Names
with_names [] has = has
with_names (name ∷ names) has = with_names names (with_name name has)

abbrev pub unknown_in : Names → Part → Option Culprit
unknown_in names p = walk (asks_protocol names) None [] (statements p.body.items)

-- the first protocol whose name is in the set, or is that of one before it
abbrev pub named_again : Names → List Part → Option Culprit
named_again has [] = None
named_again has (p ∷ ps) = if has p.name then Some (culprit p.place p.name) else named_again (with_name p.name has) ps

-- ---- roles

abbrev pub same_names : List Name → List Name → Bool
same_names [] [] = true
same_names (x ∷ xs) (y ∷ ys) = bytes_eq x y && same_names xs ys
same_names _ _ = false

abbrev pub names_of_roles : Part → List Name
names_of_roles p = map role_name p.roles.items

-- the header of a protocol has the role and the roles of the first one
abbrev pub same_header : Part → Part → Bool
same_header first p = same_names (names_of_roles p) (names_of_roles first) && bytes_eq p.me.name first.me.name

abbrev pub arguments_differ : Part → Arguments → Option Culprit
arguments_differ first a = unless (same_names a.roles.items (names_of_roles first)) (culprit a.place a.name)

abbrev pub roles_differ : Part → Part → Option Culprit
roles_differ first p = option_or (unless (same_header first p) (culprit p.place p.name))
    (first_among (arguments_differ first) p.arguments.items)

-- ---- what stands behind

abbrev mutual
  -- the first `do` behind whose choice or rec a statement stands; `followed` says that one stands behind what is around
  pub not_last : Bool → Statements → Option Culprit
  not_last followed Nothing = None
  not_last followed (Says m rest) = not_last followed rest
  not_last followed (Choice place at branches rest) = option_or (not_last_in (followed || is_some_statement rest) branches)
      (not_last followed rest)
  not_last followed (Rec place name body rest) = option_or (not_last (followed || is_some_statement rest) body) (not_last followed rest)
  not_last followed (Continue place name rest) = not_last followed rest
  not_last followed (Do place name rest) = if followed then Some (culprit place name) else not_last followed rest

  pub not_last_in : Bool → Branches → Option Culprit
  not_last_in followed NoBranch = None
  not_last_in followed (Branch b more) = option_or (not_last followed b) (not_last_in followed more)

-- the same of one statement; `more` says that others stand behind it
abbrev pub not_last_at : Bool → Bool → Statements → Option Culprit
not_last_at followed more Nothing = None
not_last_at followed more (Says m rest) = None
not_last_at followed more (Choice place at branches rest) = not_last_in (followed || more) branches
not_last_at followed more (Rec place name body rest) = not_last (followed || more) body
not_last_at followed more (Continue place name rest) = None
not_last_at followed more (Do place name rest) = if followed then Some (culprit place name) else None

-- of a protocol
abbrev pub not_last_in_part : Part → Option Culprit
not_last_in_part p = not_last false (statements p.body.items)

-- ---- what stands first

-- what comes first of messages, choices and `do`s
pub data First : Type 0 where
  Neither : First
  Deed : First
  Goes : Place → First

abbrev pub first_or : First → First → First
first_or Neither other = other
first_or Deed other = Deed
first_or (Goes place) other = Goes place

abbrev pub first_of : Statements → First
first_of Nothing = Neither
first_of (Says m rest) = Deed
first_of (Choice place at branches rest) = Deed
first_of (Rec place name body rest) = first_or (first_of body) (first_of rest)
first_of (Continue place name rest) = first_of rest
first_of (Do place name rest) = Goes place

-- whether there is a message or a choice
abbrev pub acts : Statements → Bool
acts Nothing = false
acts (Says m rest) = true
acts (Choice place at branches rest) = true
acts (Rec place name body rest) = acts body || acts rest
acts (Continue place name rest) = acts rest
acts (Do place name rest) = acts rest
