-- Lists of what is named, judged one list after another.
use Rattle.std.specs.Prelude.{◌≡◌, ◌≢◌, ◌⊎◌, List, [], ◌∷◌, length, Option, Some, None, Contains, map, Bool, ◌&&◌, ◌||◌, nat_lt, codes}
use Rattle.std.specs.Option.{option_or, is_some}
use Rattle.std.specs.Str.{bytes_eq}
use Rattle.mg_text.specs.Call.{Name}
use Rattle.mg_read.specs.Culprit.{Culprit, culprit}
use Rattle.scr_tree.specs.declared.written.Declaration.{Declaration}
use Rattle.scr_tree.specs.declared.written.Role.{Role}
use Rattle.mg_text.specs.declared.place.Place.{Place}
use Rattle.scr_tree.specs.declared.written.Carries.{Carries}
use Rattle.scr_tree.specs.declared.written.WrittenPart.{WrittenPart as Part}
use Rattle.scr_tree.specs.Written.{class_beforehand, kind_of_class, role_name}
use Rattle.scr_judge.specs.inner.OnSpot.{unless}
use Rattle.scr_judge.specs.inner.Seen.{Names}

-- an earlier one has the key of this one, and differs from it
abbrev pub Differs : {X D : Type 0} → (X → Name) → (X → D) → List X → X → Type 0
Differs {X} key deed earlier x = (other : X) × Contains earlier other × (key other ≡ key x) × (deed other ≢ deed x)

abbrev pub Clash : {X D : Type 0} → (X → Name) → (X → D) → (X → Culprit) → List X × X → Culprit → Type 0
Clash key deed told q c = (c ≡ told q.1) × Differs key deed q.0 q.1

abbrev pub alias_of : Declaration → Name
alias_of d = d.alias

abbrev pub class_of : Declaration → Name
class_of d = d.class

-- a name is declared beforehand, with another class
abbrev pub IsOtherwise : Declaration → Type 0
IsOtherwise d = (class : Name) × (class_beforehand d.alias ≡ Some class) × (class ≢ d.class)

-- a declaration gives a name another class than one before it
abbrev pub DeclaredTwice : List Declaration × Declaration → Culprit → Type 0
DeclaredTwice q c = (c ≡ culprit q.1.place q.1.alias) × (IsOtherwise q.1 ⊎ Differs alias_of class_of q.0 q.1)

-- a role is listed before
abbrev pub ListedTwice : List Role × Role → Culprit → Type 0
ListedTwice q c = (c ≡ culprit q.1.place q.1.name) × Contains (map role_name q.0) q.1.name

-- the first answer
abbrev pub first_among : {X C : Type 0} → (X → Option C) → List X → Option C
first_among f [] = None
first_among f (x ∷ xs) = option_or (f x) (first_among f xs)

abbrev pub is_supported : Declaration → Bool
is_supported d = bytes_eq d.language (codes "java") && is_some (kind_of_class d.class)

abbrev pub unsupported : Declaration → Option Culprit
unsupported d = unless (is_supported d) (culprit d.place d.alias)

-- a type that is declared beforehand or among these names
abbrev pub is_declared : Names → Name → Bool
is_declared aliases type = is_some (class_beforehand type) || aliases type

abbrev pub undeclared : Names → Place → Name → Option Culprit
undeclared aliases place type = unless (is_declared aliases type) (culprit place type)

abbrev pub undeclared_in : Names → Carries → Option Culprit
undeclared_in aliases m = first_among (undeclared aliases m.place) m.types.items

-- of a protocol
abbrev pub undeclared_by : Names → Part → Option Culprit
undeclared_by aliases p = first_among (undeclared_in aliases) p.carries.items

abbrev pub many : Carries → Option Culprit
many m = unless (nat_lt (length m.types.items) 2) (culprit m.place [])

abbrev pub many_by : Part → Option Culprit
many_by p = first_among many p.carries.items
