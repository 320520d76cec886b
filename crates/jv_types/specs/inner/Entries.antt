-- What the tables of a class hold.
use Rattle.std.specs.Prelude.{◌≡◌, List, Option, Some, None, Bool, false}
use Rattle.std.specs.List.{list_any}
use Rattle.std.specs.Str.{bytes_eq}
use Rattle.mg_text.specs.Call.{Name}
use Rattle.ts_tree.specs.Typestate as protocols
use Rattle.jv_rules.specs.Program.{offers_in}

-- whether a typestate, where there is one, offers a method of this name in some state
abbrev pub is_offered : Option protocols.Typestate → Name → Bool
is_offered None name = false
is_offered (Some t) name = list_any (λ m. bytes_eq m.name name) (offers_in t.states)

-- these names are those of all methods that a typestate offers
pub record OffersAll (t : Option protocols.Typestate) (names : List Name) : Type 0 where
  pub each : (name : Name) → list_any (bytes_eq name) names ≡ is_offered t name
