-- Which states calls lead to.
use Rattle.std.specs.Prelude.{◌≡◌, ℕ, Bool, true, List, None, length}
use Rattle.mg_sets.specs.Sets.{has}
use Rattle.mg_text.specs.Call.{Call}
use Rattle.ts_tree.specs.declared.parts.To.TheVariants as tos
use Rattle.ts_tree.specs.Typestate.{Typestate}
use Rattle.ts_tree.specs.Calls.{Path}

-- some calls lead from the initial state to this one
pub record IsReachable (t : Typestate) (q : ℕ) : Type 0 where
  pub calls : List Call
  pub path : Path t calls None
  pub there : path.to ≡ tos.State q

-- the set is as wide as there are states, and its members are those that calls lead to
pub record MarksReachable (t : Typestate) (s : List Bool) : Type 0 where
  pub wide : length s ≡ length t.states
  pub only : (q : ℕ) → has s q ≡ true → IsReachable t q
  pub all : (q : ℕ) → IsReachable t q → has s q ≡ true
