-- What the states of a typestate meet.
use Rattle.std.specs.Prelude.{◌≡◌, ◌≢◌, ℕ, ◌<◌, List, [], ◌∷◌, length, map, codes, Contains}
use Rattle.std.specs.List.{AllByRecursion}
use Rattle.mg_text.specs.Call.{Name}
use Rattle.ts_tree.specs.declared.parts.To.{To}
use Rattle.ts_tree.specs.declared.parts.To.TheVariants as tos
use Rattle.ts_tree.specs.Typestate.{Target, One, ByAnswer, Method, State}

-- no name stands twice
abbrev pub AreDistinct : List Name → Type 0
AreDistinct [] = Unit {0}
AreDistinct (name ∷ names) = (Contains names name → ⊥) × AreDistinct names

-- the end, or one of so many states
abbrev pub IsWithin : ℕ → To → Type 0
IsWithin count (tos.State n) = n < count
IsWithin count tos.End = Unit {0}

-- each place that it leads to is one of so many states or the end, and no label stands twice
abbrev pub IsTarget : ℕ → Target → Type 0
IsTarget count (One to) = IsWithin count to
IsTarget count (ByAnswer branches) = AllByRecursion (λ b. IsWithin count b.to) branches × AreDistinct (map (λ b. b.label) branches)

pub record IsState (count : ℕ) (s : State) : Type 0 where
  -- no state is named as the end is
  pub named : s.name ≢ codes "end"
  -- no method stands twice
  pub methods : AreDistinct (map (λ m. m.name) s.methods)
  pub targets : AllByRecursion (λ m. IsTarget count m.target) s.methods

-- a method that some state offers
abbrev pub IsOffered : List State → Method → Type 0
IsOffered states m = (s : State) × Contains states s × Contains s.methods m

pub record IsProper (states : List State) : Type 0 where
  -- no two states share a name
  pub states_differ : AreDistinct (map (λ s. s.name) states)
  pub each : AllByRecursion (IsState (length states)) states
  -- methods of one name have one result and the same parameters
  pub one_signature : (m n : Method) → IsOffered states m → IsOffered states n → m.name ≡ n.name → (m.result ≡ n.result)
      × (m.params ≡ n.params)
