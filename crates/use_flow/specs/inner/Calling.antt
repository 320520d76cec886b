-- What the code says of calls.
use Rattle.std.specs.Prelude.{ℕ, zero, suc, List, [], ◌∷◌, Option, Some, None, map}
use Rattle.mg_text.specs.Call.{Name}
use Rattle.ts_tree.specs.declared.parts.To.{To}
use Rattle.ts_tree.specs.Typestate.{Target, Typestate}
use Rattle.use_rules.specs.Elements.{target_at, targets, targets_by}
use Rattle.use_rules.specs.State.{Sight}
use Rattle.use_flow.specs.declared.out.Sight as sight
use Rattle.use_flow.specs.View.{sight_of}

-- the places to which a call leads: all, or those with a label
abbrev pub which_of : Option Name → Target → List To
which_of None = targets
which_of (Some label) = targets_by label

-- what calls are made on, as the code keeps it
abbrev pub sights_in : List sight.Sight → List Sight
sights_in ss = map sight_of ss

-- the state of an element, where it offers the method
abbrev pub offers_one : Typestate → (method : Name) → ℕ → List ℕ
offers_one t m zero = []
offers_one t m (suc zero) = []
offers_one t m (suc (suc zero)) = []
offers_one t m (suc (suc (suc q))) = elim (target_at t m q) as (λ _. List ℕ) [ None ↦ [] | Some k ↦ q ∷ [] ]
