-- Where the contexts of each method begin among all contexts.
use Rattle.std.specs.Prelude.{ℕ, suc, ◌+◌, Bool, List, [], ◌∷◌, length}
use Rattle.jv_core.specs.Tree.{Method, Program}
use Rattle.use_rules.specs.Keys.{contexts_of}
use Rattle.use_flow.specs.declared.runs.Runs as kept

-- by the numbers of methods, from this one on; and where those of the last end
abbrev pub starts_from : Program → (reached : List (List Bool)) → (first method : ℕ) → List Method → List ℕ
starts_from p reached i n [] = i ∷ []
starts_from p reached i n (m ∷ ms) = i ∷ starts_from p reached (i + length (contexts_of p reached n m)) (suc n) ms

abbrev pub starts_in : Program → (reached : List (List Bool)) → List ℕ
starts_in p reached = starts_from p reached 0 0 p.methods

abbrev pub starts_of : kept.Runs → List ℕ
starts_of r = r.starts.items
