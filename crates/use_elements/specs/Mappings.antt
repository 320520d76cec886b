-- The element maps and demands of the rules, by the names that the code has for them.
use Rattle.std.specs.Prelude.{◌≡◌, ◌≢◌, ℕ, List, [], ◌∷◌, Option, Some, None, get_or, codes}
use Rattle.use_elements.specs.declared.elements.Mapping.{Mapping}
use Rattle.use_elements.specs.declared.elements.Mapping.TheVariants as mappings
use Rattle.use_elements.specs.declared.elements.Rule.{Rule}
use Rattle.use_elements.specs.declared.elements.Rule.TheVariants as rules
use Rattle.use_elements.specs.declared.elements.Title.{Title}
use Rattle.use_elements.specs.declared.elements.Title.TheVariants as titles
use Rattle.use_rules.specs.declared.demand.DemandKind.{DemandKind}
use Rattle.use_rules.specs.declared.demand.DemandKind.TheVariants as demands
use Rattle.use_rules.specs.declared.demand.Demand.{Demand}
use Rattle.mg_text.specs.Call.{Name}
use Rattle.ts_tree.specs.Typestate.{Typestate}
use Rattle.mg_text.specs.declared.place.Place.{Place}
use Rattle.use_rules.specs.Keys.{at_end}
use Rattle.use_rules.specs.Elements.{as_value, left_behind, not_null, only_null, if_moved, if_open, element_at}

-- the typestate that there may be
abbrev pub typestate_or_end : Option Typestate → Typestate
typestate_or_end None = at_end
typestate_or_end (Some t) = t

abbrev pub mapping_of : Mapping → ℕ → List ℕ
mapping_of mappings.AsValue = as_value
mapping_of mappings.LeftBehind = left_behind
mapping_of mappings.NotNull = not_null
mapping_of mappings.OnlyNull = only_null

-- what is asked of an element of a class with this typestate
abbrev pub rule_of : Rule → Typestate → ℕ → Option DemandKind
rule_of rules.Moved t = if_moved
rule_of rules.LeftOpen t = if_open demands.LeftOpen t
rule_of rules.Overwritten t = if_open demands.Overwritten t
rule_of rules.FieldOpenAtEnd t = if_open demands.FieldOpenAtEnd t

abbrev pub listed : Option ℕ → List ℕ
listed None = []
listed (Some x) = x ∷ []

-- what a demand is about, as a text
abbrev pub title_in : List Name → Title → Name
title_in names (titles.Variable n) = get_or names n.0 []
title_in names titles.Value = codes "value"
title_in names titles.Unnamed = []

-- the demand that an element fails, where it fails one
abbrev pub blamed : Place → (variable : ℕ) → Name → (class element : ℕ) → Option DemandKind → List Demand
blamed q y x c e None = []
blamed q y x c e (Some k) = record { kind = k; place = q; variable = y; slot = x; class = c; element = element_at e } ∷ []

-- each element but one leads to itself alone
pub record LeadsToItself (to : ℕ → List ℕ) (but : ℕ) : Type 0 where
  pub itself : (e : ℕ) → e ≢ but → to e ≡ e ∷ []
