-- Which states offer the methods of a name, and tables of them.
use Rattle.std.specs.Prelude.{◌≡◌, ℕ, suc, List, [], ◌∷◌, ◌++◌, length, map, Option, Some, None, position, slice_get, slice_index_or}
use Rattle.std.specs.Prelude.{if◌then◌else◌}
use Rattle.std.specs.Str.{bytes_eq}
use Rattle.mg_text.specs.Call.{Name}
use Rattle.ts_tree.specs.Typestate.{Method, State, Typestate}
use Rattle.ts_tree.specs.Proper.{IsProper}
use Rattle.jv_core.specs.Tree.{Program}
use Rattle.use_flow.specs.declared.offers.Offers.{Offers}

-- the state, as often as its methods have the name
abbrev pub by_methods : (state : ℕ) → List Method → Name → List ℕ
by_methods q [] name = []
by_methods q (m ∷ ms) name = if bytes_eq m.name name then q ∷ by_methods q ms name else by_methods q ms name

-- the states that have a method of the name, from a number on
abbrev pub by_states : (state : ℕ) → List State → Name → List ℕ
by_states q [] name = []
by_states q (s ∷ ss) name = by_methods q s.methods name ++ by_states (suc q) ss name

abbrev pub numbered : List (List ℕ) → Option ℕ → List ℕ
numbered lists None = []
numbered lists (Some n) = slice_index_or lists n []

abbrev pub lists_of : Offers → List (List ℕ)
lists_of o = map (λ l. map (λ x. x.state) l.items) o.lists.items

-- the states that a table has for a name
abbrev pub states_of : Offers → Name → List ℕ
states_of o name = numbered (lists_of o) (position (bytes_eq name) o.names)

-- there is a list for each name
abbrev pub IsEven : Offers → Type 0
IsEven o = length o.lists.items ≡ length o.names

-- the table has the states of a typestate that offer each method
pub record IsOfferedBy (t : Typestate) (o : Offers) : Type 0 where
  pub proper : IsProper t.states
  pub each : (name : Name) → states_of o name ≡ by_states 0 t.states name

-- a table for each typestate
pub record AreOffers (p : Program) (os : List Offers) : Type 0 where
  pub as_many : length os ≡ length p.typestates
  pub each : (n : ℕ) (t : Typestate) (o : Offers) → slice_get p.typestates n ≡ Some t → slice_get os n ≡ Some o → IsOfferedBy t o

-- the table of the typestate that a class follows
abbrev pub offers_at : Program → List Offers → (class : ℕ) → Option Offers
offers_at p os c = elim (slice_get p.classes c) [
  | None ↦ None
  | Some k ↦ elim k.typestate [ None ↦ None | Some n ↦ slice_get os n ]
]
