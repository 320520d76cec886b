-- Objects and lists of JSON, by what they hold.
use Rattle.std.specs.Prelude.{ℕ, ℤ, List, [], ◌∷◌, map}
use Rattle.serde_json.specs.Data.{Data, number, unsigned, array, object, Members, no_members, put}
use Rattle.serde_json.specs.Find.{of_integer}
use Rattle.serde_json.specs.View.{items_of}

-- an object with these members; an object has each name once, and in the order of the names
abbrev pub members_of : List (List ℕ × Data) → Members
members_of [] = no_members
members_of (m ∷ ms) = put m.0 m.1 (members_of ms)

abbrev pub object_of : List (List ℕ × Data) → Data
object_of ms = object (members_of ms)

-- a list, item by item
abbrev pub list_of : {A : Type 0} → (A → Data) → List A → Data
list_of f xs = array (items_of (map f xs))

-- counts, and whole numbers
abbrev pub count : ℕ → Data
count n = number (unsigned n)

abbrev pub integer : ℤ → Data
integer z = number (of_integer z)
