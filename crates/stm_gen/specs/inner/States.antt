-- The states of a typestate, from those of an automaton.
use Rattle.std.specs.Prelude.{ℕ, suc, List, [], ◌∷◌, false}
use Rattle.mg_text.specs.Call.{Name}
use Rattle.scr_trace.specs.Graph.{Edge}
use Rattle.ts_tree.specs.Typestate.{State}
use Rattle.stm_gen.specs.Laid.{methods_of, state_name}

-- those with these edges, of which the first has this number
abbrev pub states_from : Name → ℕ → List (List Edge) → List State
states_from me k [] = []
states_from me k (edges ∷ more) = record { name = state_name k; methods = methods_of me edges; drops = false } ∷ states_from me (suc k) more
