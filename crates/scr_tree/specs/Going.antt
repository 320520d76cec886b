-- How protocols of a file go on as one another: the conditions on `do`.
use Rattle.std.specs.Prelude.{◌≡◌, ◌≢◌, ◌⊎◌, List, [], ◌∷◌, ◌++◌, map, Bool, true, false, ◌||◌, IsTrue, Option, Some, None, Contains}
use Rattle.std.specs.List.{list_any}
use Rattle.mg_text.specs.Call.{Name}
use Rattle.mg_text.specs.declared.place.Place.{Place}
use Rattle.mg_read.specs.Culprit.{Culprit, culprit}
use Rattle.scr_tree.specs.Tree.{Titled, Statements, Nothing, Says, Choice, Rec, Continue, Do, Branches, NoBranch, Branch}
use Rattle.scr_tree.specs.Spots.{Spot, spot, spots, Way}
use Rattle.scr_tree.specs.Control.{AtOnce}
use Rattle.scr_tree.specs.Conditions as says
use Rattle.scr_tree.specs.Written.{Arguments, WrittenPart, role_name, roles_in, name_in}

-- ---- Unguarded

-- a protocol of the one name has a `do` of the other with no message on the path from its opening
pub record GoesOn (all : List Titled) (from to : Name) : Type 0 where
  pub body : Statements
  pub there : Contains all (record { name = from; body = body })
  pub way : Way
  pub place : Place
  pub rest : Statements
  pub stands : Contains (spots [] body) (spot way (Do place to rest))
  pub at_once : AtOnce way

-- protocols that go on so, one after another, from the one name to the other
pub data Leads (all : List Titled) : Name → Name → Type 0 where
  there : {name : Name} → Leads all name name
  onward : {from next to : Name} → GoesOn all from next → Leads all next to → Leads all from to

-- Unguarded: no message stands on a path from the opening of `rec X` to `continue X`, or a `do` stands on a cycle of protocols each of
-- which
-- has a `do` of the next with no message on the path from its opening
abbrev pub Unguarded : List Titled → Titled × Spot → Culprit → Type 0
Unguarded all (t, spot way (Do place name rest)) c = (c ≡ culprit place name) × AtOnce way × Leads all name t.name
Unguarded all (t, s) c = says.Unguarded s c

-- ---- UnknownProtocol, DuplicateProtocol

-- UnknownProtocol: a `do` names no protocol of the file
abbrev pub UnknownProtocol : List Name → Spot → Culprit → Type 0
UnknownProtocol names (spot way (Do place name rest)) c = (c ≡ culprit place name) × (Contains names name → ⊥)
UnknownProtocol names _ c = ⊥

-- DuplicateProtocol: two protocols have one name; the second is at fault
abbrev pub DuplicateProtocol : List WrittenPart × WrittenPart → Culprit → Type 0
DuplicateProtocol q c = (c ≡ culprit q.1.place q.1.name) × Contains (map name_in q.0) q.1.name

-- ---- RolesDiffer

-- where the roles of a file are told, in the order of the text: at the head of each protocol, then at each `do` in it
pub data Told : Type 0 where
  heads : WrittenPart → Told
  gives : Arguments → Told

abbrev pub told_in : WrittenPart → List Told
told_in p = heads p ∷ map gives p.arguments

-- RolesDiffer: the roles of a protocol in their order, or the role that it is of, differ from those of the first one, or the arguments of a
-- `do` aren't the roles in their order
abbrev pub RolesDiffer : WrittenPart → Told → Culprit → Type 0
RolesDiffer first (heads p) c = (c ≡ culprit p.place p.name) × ((roles_in p ≢ roles_in first) ⊎ (p.me.name ≢ first.me.name))
RolesDiffer first (gives a) c = (c ≡ culprit a.place a.name) × (a.roles ≢ roles_in first)

-- ---- NotLast

-- a `do`, and whether a statement stands behind a choice or a rec that holds it, in the same list
pub record Held : Type 0 where
  pub place : Place
  pub name : Name
  pub followed : Bool

abbrev pub is_some_statement : Statements → Bool
is_some_statement Nothing = false
is_some_statement _ = true

abbrev mutual
  -- the `do`s in the order of the text; `followed` says that a statement stands behind what is around
  pub held : Bool → Statements → List Held
  held followed Nothing = []
  held followed (Says m rest) = held followed rest
  held followed (Choice place at branches rest) = held_in (followed || is_some_statement rest) branches ++ held followed rest
  held followed (Rec place name body rest) = held (followed || is_some_statement rest) body ++ held followed rest
  held followed (Continue place name rest) = held followed rest
  held followed (Do place name rest) = record { place = place; name = name; followed = followed } ∷ held followed rest

  pub held_in : Bool → Branches → List Held
  held_in followed NoBranch = []
  held_in followed (Branch b more) = held followed b ++ held_in followed more

-- those of protocols, one after another
abbrev pub all_held : List Statements → List Held
all_held [] = []
all_held (body ∷ bodies) = held false body ++ all_held bodies

-- NotLast: a statement stands behind a choice or a rec that holds a `do`, in the same list; the `do` is at fault
abbrev pub NotLast : Held → Culprit → Type 0
NotLast h c = (c ≡ culprit h.place h.name) × IsTrue h.followed

-- ---- StartsWithDo

-- a message or a choice
abbrev pub is_deed : Spot → Bool
is_deed (spot way (Says m rest)) = true
is_deed (spot way (Choice place at branches rest)) = true
is_deed _ = false

abbrev pub has_deed : Statements → Bool
has_deed body = list_any is_deed (spots [] body)

-- where a `do` stands before all messages and choices, the first of these
abbrev pub first_do : List Spot → Option Place
first_do [] = None
first_do (spot way (Says m rest) ∷ more) = None
first_do (spot way (Choice place at branches rest) ∷ more) = None
first_do (spot way (Do place name rest) ∷ more) = Some place
first_do (s ∷ more) = first_do more

-- the first protocol, where there are others
abbrev pub first_of_several : WrittenPart → List WrittenPart → List WrittenPart
first_of_several first [] = []
first_of_several first (p ∷ ps) = first ∷ []

-- StartsWithDo: there are two or more protocols, and the first has no message and no choice (its name is at fault), or has a `do` before
-- them all (the `do` is at fault)
abbrev pub StartsWithDo : WrittenPart → Culprit → Type 0
StartsWithDo first c =
    ((c ≡ culprit first.place first.name) × (has_deed first.body ≡ false))
    ⊎ ((place : Place) × (c ≡ culprit place first.name) × (has_deed first.body ≡ true) × (first_do (spots [] first.body) ≡ Some place))
