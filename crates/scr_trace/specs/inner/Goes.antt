-- Where a call leads along the edges of the state at which a walk stands.
use Rattle.std.specs.Prelude.{◌≡◌, ◌≢◌, ℕ, List, [], ◌∷◌, ◌⊎◌, Option, Some, None, slice_get}
use Rattle.mg_text.specs.Call.{Call}
use Rattle.scr_tree.specs.Local.{tree_of}
use Rattle.scr_tree.specs.CallNames.{call_of}
use Rattle.scr_trace.specs.declared.standing.Standing.{Standing}
use Rattle.scr_trace.specs.declared.standing.Standing.TheVariants as standings
use Rattle.scr_trace.specs.declared.walk.Walk.{Walk}
use Rattle.scr_trace.specs.Graph.{Edge}
use Rattle.scr_trace.specs.Walking.{graph_of}

abbrev pub Among : {A : Type 0} → List A → A → Type 0
Among [] x = ⊥
Among (y ∷ ys) x = (y ≡ x) ⊎ Among ys x

-- an edge of the state at which the walk stands
pub record Edged (walk : Walk) (edge : Edge) : Type 0 where
  pub number : ℕ
  pub edges : List Edge
  pub at : walk.standing ≡ standings.State number
  pub there : slice_get (graph_of walk).states number ≡ Some edges
  pub among : Among edges edge

-- an edge has the call and leads there
pub record Taken (walk : Walk) (call : Call) (to : Standing) : Type 0 where
  pub edge : Edge
  pub edged : Edged walk edge
  pub named : call_of (tree_of walk.local.now).me edge.act ≡ call
  pub leads : edge.to ≡ to

-- some edge has the call, or none has
abbrev pub Goes : Walk → Call → Option Standing → Type 0
Goes walk call (Some to) = Taken walk call to
Goes walk call None = (edge : Edge) → Edged walk edge → call_of (tree_of walk.local.now).me edge.act ≢ call
