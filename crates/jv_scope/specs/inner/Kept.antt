-- Parameters and locals in a table by name.
use Rattle.std.specs.Prelude.{◌≡◌, List, [], ◌∷◌, Option, option_map, is_some, Bool, true, not, ◌&&◌}
use Rattle.mg_text.specs.Call.{Name}
use Rattle.jv_scope.specs.Named.{Named, named}

-- no two have one name
abbrev pub are_apart : {T : Type 0} → List (Named T) → Bool
are_apart [] = true
are_apart (n ∷ ns) = not (is_some (named ns n.name)) && are_apart ns

-- a table has each
pub record AreLookedUp {T : Type 0} (get : Name → Option T) (ns : List (Named T)) : Type 0 where
  pub each : (name : Name) → get name ≡ option_map (λ n. n.it) (named ns name)
  pub apart : are_apart ns ≡ true
