-- A demand that fails, as a refusal.
use Rattle.std.specs.Prelude.{ℕ, Bool, true, false, List, ◌++◌, codes, if◌then◌else◌}
use Rattle.jv_core.specs.Tree as Core
use Rattle.use_rules.specs.declared.demand.Demand.{Demand}
use Rattle.use_rules.specs.declared.demand.DemandKind.{DemandKind}
use Rattle.use_rules.specs.declared.demand.DemandKind.TheVariants as demands
use Rattle.use_rules.specs.Keys.{typestate_of}
use Rattle.use_check.specs.Report.{element_text}
use Rattle.mg_refusal.specs.Refusals.{Refusal, refusal_at}

-- the word for each kind of demand
abbrev pub demand_word : DemandKind → List ℕ
demand_word demands.UseMoved = codes "UseMoved"
demand_word demands.MaybeNull = codes "MaybeNull"
demand_word demands.NotOffered = codes "NotOffered"
demand_word demands.LeftOpen = codes "LeftOpen"
demand_word demands.Overwritten = codes "Overwritten"
demand_word demands.FieldOpenAtEnd = codes "FieldOpenAtEnd"

-- a demand that a state fails, or the end, tells which it is
abbrev pub tells_element : DemandKind → Bool
tells_element demands.UseMoved = false
tells_element demands.MaybeNull = false
tells_element demands.NotOffered = true
tells_element demands.LeftOpen = true
tells_element demands.Overwritten = true
tells_element demands.FieldOpenAtEnd = true

-- the element that fails a demand, by its name: that of a state, or `end`
abbrev pub element_of : Core.Program → Demand → List ℕ
element_of core d = element_text (typestate_of core d.class) d.element

-- what is named of a demand: the variable, and behind a blank the element, where it is told
abbrev pub demand_name : Core.Program → Demand → List ℕ
demand_name core d = if tells_element d.kind then d.slot ++ (codes " " ++ element_of core d) else d.slot

-- a demand that fails, as a refusal
abbrev pub demand_refusal : Core.Program → Demand → Refusal
demand_refusal core d = refusal_at (demand_word d.kind) d.place (demand_name core d)
