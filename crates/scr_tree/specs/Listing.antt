-- The conditions on what a file lists and declares: roles, types, and what messages carry.
use Rattle.std.specs.Prelude.{◌≡◌, ◌≢◌, ◌≤◌, ◌⊎◌, List, [], ◌∷◌, ◌++◌, map, length, Some, None, Contains, codes}
use Rattle.std.specs.List.{flat_map}
use Rattle.mg_text.specs.Call.{Name}
use Rattle.mg_text.specs.declared.place.Place.{Place}
use Rattle.mg_read.specs.Culprit.{Culprit, culprit}
use Rattle.scr_tree.specs.declared.written.Declaration.{Declaration}
use Rattle.scr_tree.specs.declared.written.Role.{Role}
use Rattle.mg_read.specs.First.{with_earlier}
use Rattle.scr_tree.specs.Spots.{Spot, spots, each_of}
use Rattle.scr_tree.specs.Conditions as says
use Rattle.scr_tree.specs.Written.{Carries, WrittenPart, WrittenTree, parts_in, class_beforehand, kind_of_class}

-- ---- DuplicateName

-- what a file declares, and the roles that a protocol lists, in the order of the text
pub data Entry : Type 0 where
  declares : Declaration → Entry
  lists : Role → Entry

-- the roles that protocols list, each with those before it in its list
abbrev pub listed : List WrittenPart → List (List Entry × Entry)
listed [] = []
listed (p ∷ ps) = with_earlier (map lists p.roles) ++ listed ps

-- the types and the roles, each with what stands before it
abbrev pub entries : WrittenTree → List (List Entry × Entry)
entries w = with_earlier (map declares w.types ++ map lists w.first.roles) ++ listed w.others

-- a name is declared with this class beforehand, or earlier in the text
abbrev pub IsDeclaredAs : List Entry → Name → Name → Type 0
IsDeclaredAs earlier alias class =
    (class_beforehand alias ≡ Some class) ⊎ ((d : Declaration) × Contains earlier (declares d) × (d.alias ≡ alias) × (d.class ≡ class))

-- DuplicateName: a type name is declared with two classes, or a role is listed twice; the second is at fault
abbrev pub DuplicateName : List Entry × Entry → Culprit → Type 0
DuplicateName (earlier, declares d) c =
    (c ≡ culprit d.place d.alias) × (class : Name) × IsDeclaredAs earlier d.alias class × (class ≢ d.class)
DuplicateName (earlier, lists role) c =
    (c ≡ culprit role.place role.name) × (other : Role) × Contains earlier (lists other) × (other.name ≡ role.name)

-- ---- UnknownRole

-- where roles are named, in the order of the text: the role itself, then the statements
pub data Mention : Type 0 where
  itself : Role → Mention
  within : Spot → Mention

abbrev pub mentions_in : WrittenPart → List Mention
mentions_in p = itself p.me ∷ map within (spots [] p.body)

-- those of a file, each with its protocol
abbrev pub mentions : WrittenTree → List (WrittenPart × Mention)
mentions w = each_of mentions_in (parts_in w)

-- UnknownRole: the role itself, a peer or the role of a choice is not listed
abbrev pub UnknownRole : List Name → Mention → Culprit → Type 0
UnknownRole roles (itself me) c = (c ≡ culprit me.place me.name) × (Contains roles me.name → ⊥)
UnknownRole roles (within s) c = says.UnknownRole roles s c

-- ---- UnknownType

-- where types are named, in the order of the text: each declaration, then each type that a message carries, with the message's place
pub data Typed : Type 0 where
  declared : Declaration → Typed
  carried : Place → (type : Name) → Typed

abbrev pub carried_by : Carries → List Typed
carried_by m = map (carried m.place) m.types

-- what the messages of a file carry
abbrev pub all_carries : WrittenTree → List Carries
all_carries w = flat_map (λ (p : WrittenPart). p.carries) (parts_in w)

abbrev pub typed : WrittenTree → List Typed
typed w = map declared w.types ++ flat_map carried_by (all_carries w)

-- the declaration is of Java, and of one of the three classes
abbrev pub IsSupported : Declaration → Type 0
IsSupported d = (d.language ≡ codes "java") × (kind_of_class d.class ≢ None)

abbrev pub IsDeclared : List Declaration → Name → Type 0
IsDeclared types type = (class_beforehand type ≢ None) ⊎ ((d : Declaration) × Contains types d × (d.alias ≡ type))

-- UnknownType: a declaration isn't supported, or what a message carries isn't declared
abbrev pub UnknownType : List Declaration → Typed → Culprit → Type 0
UnknownType types (declared d) c = (c ≡ culprit d.place d.alias) × (IsSupported d → ⊥)
UnknownType types (carried place type) c = (c ≡ culprit place type) × (IsDeclared types type → ⊥)

-- ---- PayloadCount

-- PayloadCount: a message has two or more payloads
abbrev pub PayloadCount : Carries → Culprit → Type 0
PayloadCount m c = (c ≡ culprit m.place []) × (2 ≤ length m.types)
