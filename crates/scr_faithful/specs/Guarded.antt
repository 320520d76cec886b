-- On each path from the opening of a rec of a global protocol to a `continue` with its name stands a message.
use Rattle.std.specs.Prelude.{List, [], ◌∷◌, Contains}
use Rattle.mg_text.specs.Call.{Name}
use Rattle.scr_global.specs.Global.{Global, Nothing, Says, Choice, Rec, Continue, Branches, NoBranch, Branch}

-- all but the first
abbrev pub but_first : List Name → List Name
but_first [] = []
but_first (name ∷ names) = names

-- `quiet` are the recs around whose opening no message stands behind, the innermost first; `Behind` says the same of what stands behind.
abbrev mutual
  pub Guards : List Name → Global → (List Name → Type 0) → Type 0
  Guards quiet Nothing Behind = Behind quiet
  Guards quiet (Says m rest) Behind = Guards [] rest Behind
  Guards quiet (Choice at branches rest) Behind = GuardsEach quiet branches (λ names. Guards names rest Behind)
  Guards quiet (Rec name body rest) Behind = Guards (name ∷ quiet) body (λ names. Guards (but_first names) rest Behind)
  Guards quiet (Continue name rest) Behind = Contains quiet name → ⊥

  pub GuardsEach : List Name → Branches → (List Name → Type 0) → Type 0
  GuardsEach quiet NoBranch Behind = Unit {0}
  GuardsEach quiet (Branch b more) Behind = Guards quiet b Behind × GuardsEach quiet more Behind

-- no `continue` is unguarded
abbrev pub IsGuarded : Global → Type 0
IsGuarded g = Guards [] g (λ names. Unit {0})
