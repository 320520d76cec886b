-- Contexts, as the code makes them.
use Rattle.std.specs.Prelude.{ℕ, Bool, List, [], ◌∷◌, Option, Some, None, if◌then◌else◌}
use Rattle.mg_sets.specs.Sets.{has}
use Rattle.use_rules.specs.declared.key.Context.{Context}
use Rattle.use_rules.specs.Keys.{in_states}

abbrev pub set_or_none : Option (List Bool) → List Bool
set_or_none None = []
set_or_none (Some s) = s

-- those of these numbers that are members
abbrev pub members_among : List Bool → List ℕ → List ℕ
members_among s [] = []
members_among s (q ∷ qs) = if has s q then q ∷ members_among s qs else members_among s qs

-- the contexts of a protocol method in those of these states that are members of a set
abbrev pub entered_in : (class method : ℕ) → List Bool → List ℕ → List Context
entered_in c n s qs = in_states c n (members_among s qs)
