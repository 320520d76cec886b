-- How a search goes through a graph: which nodes were come to, and which of them wait for their edges to be followed.
use Rattle.std.specs.Prelude.{◌≡◌, ◌≢◌, ◌≤◌, ◌<◌, ◌⊎◌, ℕ, ◌+◌, ◌*◌, ◌==◌, Bool, true, false, List, [], ◌∷◌, length, get_or, count_by}
use Rattle.std.specs.Prelude.{Contains, Result, Ok, Err}

-- how many nodes weren't come to
abbrev pub unseen : List ℕ → ℕ
unseen seen = count_by (λ x. x == 0) seen

-- a node was come to, if there is such a node
abbrev pub IsSeen : List ℕ → ℕ → Type 0
IsSeen seen v = v < length seen → get_or seen v 0 ≢ 0

-- these nodes were come to: new ones wait
pub record Came (nodes old waited new waits : List ℕ) : Type 0 where
  pub size : length new ≡ length old
  pub kept : (v : ℕ) → get_or old v 0 ≢ 0 → get_or new v 0 ≢ 0
  pub seen : (v : ℕ) → Contains nodes v → IsSeen new v
  pub fresh : (v : ℕ) → get_or new v 0 ≢ 0 → (get_or old v 0 ≢ 0) ⊎ Contains waits v
  pub waiting : (v : ℕ) → Contains waited v → Contains waits v
  pub from : (v : ℕ) → Contains waits v → Contains waited v ⊎ Contains nodes v
  pub fewer : 2 * unseen new + length waits ≤ 2 * unseen old + length waited

abbrev pub Comes : ℕ → List ℕ → List ℕ → List ℕ → List ℕ → Type 0
Comes node = Came (node ∷ [])

-- the same, where none of them is the one that is sought
pub record Spreads (nodes : List ℕ) (to : ℕ) (old waited new waits : List ℕ) : Type 0 where
  pub came : Came nodes old waited new waits
  pub missed : (v : ℕ) → Contains nodes v → v ≢ to

-- what holds where the answer is no
abbrev pub OnFalseOk : {E : Type 0} → Result Bool E → Type 0 → Type 0
OnFalseOk (Ok false) P = P
OnFalseOk (Ok true) P = Unit {0}
OnFalseOk (Err e) P = Unit {0}
