-- A walk over states: those that were met are marked, and some of them still wait for their turn.
use Rattle.std.specs.Prelude.{ℕ, Bool, true, false, List, [], ◌∷◌, ◌++◌, map, slice_set, if◌then◌else◌}
use Rattle.mg_sets.specs.Sets.{has}
use Rattle.ts_tree.specs.declared.parts.To.{To}
use Rattle.ts_tree.specs.declared.parts.To.TheVariants as tos
use Rattle.ts_tree.specs.declared.parts.TypeName.{TypeName}
use Rattle.ts_tree.specs.declared.parts.TypeName.TheVariants as types
use Rattle.ts_tree.specs.Typestate.{Target, One, ByAnswer, Method}

pub record Walked : Type 0 where
  pub marked : List Bool
  pub waiting : List ℕ

-- a state that is met for the first time is marked, and waits
abbrev pub visited : Walked → To → Walked
visited w (tos.State q) = if has w.marked q then w else record { marked = slice_set w.marked q true; waiting = w.waiting ++ q ∷ [] }
visited w tos.End = w

-- whether calls may have an answer of this type
abbrev pub is_named : TypeName → Bool
is_named (types.Named name) = true
is_named types.Void = false
is_named types.Int = false
is_named types.Boolean = false
is_named types.Text = false

-- where calls of a method lead
abbrev pub targets_by : TypeName → Target → List To
targets_by type (One to) = to ∷ []
targets_by type (ByAnswer branches) = if is_named type then map (λ b. b.to) branches else []

abbrev pub targets_of : Method → List To
targets_of m = targets_by m.result m.target

abbrev pub targets_in : List Method → List To
targets_in [] = []
targets_in (m ∷ ms) = targets_of m ++ targets_in ms
