-- Statements without statements inside, as the code says them.
use Rattle.std.specs.Prelude.{ℕ, List, [], ◌∷◌, Option, Some, None, slice_get, codes}
use Rattle.mg_text.specs.declared.place.Place.{Place}
use Rattle.jv_core.specs.declared.tree.CoreVar.{CoreVar}
use Rattle.jv_core.specs.declared.program.CoreType.{CoreType}
use Rattle.jv_core.specs.declared.program.CoreType.TheVariants as types
use Rattle.jv_core.specs.Tree.{Expr}
use Rattle.use_elements.specs.declared.elements.Rule.TheVariants as judging
use Rattle.use_rules.specs.declared.demand.DemandKind.TheVariants as demands
use Rattle.use_rules.specs.Elements.{Set, if_open}
use Rattle.use_rules.specs.Keys.{typestate_of}
use Rattle.use_rules.specs.State.{Now, Log, asks, with_set, Flow, judged}
use Rattle.use_rules.specs.Flow as rules
use Rattle.use_flow.specs.inner.Ending.{answer_of, left}
use Rattle.use_flow.specs.inner.Followed.{Followed, eval, width_of, variable_at, variable_width, behind_variables, class_or_none}
use Rattle.use_flow.specs.inner.Followed.{judged_variable}

abbrev pub exit : Followed → Place → List ℕ → Flow → Flow
exit s = rules.exit s.program s.contexts s.context s.method

abbrev pub slot_width : Followed → (slot : ℕ) → ℕ
slot_width s = rules.slot_width s.program s.contexts s.context s.method

abbrev pub type_dropped : Followed → Expr → Option CoreType
type_dropped s = rules.type_dropped s.program s.contexts s.context s.method

-- the constants of an enum's type
abbrev pub constants_of : Followed → Option CoreType → List ℕ
constants_of s o = elim o [
  | None ↦ []
  | Some ty ↦ elim ty [ types.Enum n ↦ elim (slice_get s.program.enums n) [ None ↦ [] | Some d ↦ d.constants ] | _ ↦ [] ]
]

abbrev pub placed_flow : (slot : ℕ) → rules.Evaluated → Flow
placed_flow k v = rules.flow (rules.placed k v.set (rules.after v)) [] v.log

abbrev pub declared : Followed → (slot : ℕ) → Expr → Now → Log → Flow
declared s k e now log = placed_flow k (eval s (slot_width s k) e now log)

abbrev pub local : Followed → Place → (slot : ℕ) → Expr → List Set → Log → Flow
local s q k e sets log = exit s q (k ∷ []) (declared s k e (Some sets) log)

abbrev pub overwritten : Followed → CoreVar → rules.Evaluated → Now → Flow
overwritten s x v n = elim n [
  | None ↦ rules.flow None [] v.log
  | Some now ↦ rules.flow (Some (with_set now (variable_at s x.var) v.set)) []
      (asks (judged_variable s judging.Overwritten x.place x.var now) v.log)
]

abbrev pub assigned : Followed → CoreVar → Expr → List Set → Log → Flow
assigned s x e sets log = let v = eval s (variable_width s x.var) e (Some sets) log in overwritten s x v (rules.after v)

abbrev pub printed_flow : rules.Evaluated → Flow
printed_flow v = rules.flow (rules.after v) [] v.log

abbrev pub printed : Followed → Expr → List Set → Log → Flow
printed s e sets log = printed_flow (eval s 0 e (Some sets) log)

abbrev pub dropped_flow : Followed → Place → (class : ℕ) → rules.Evaluated → Flow
dropped_flow s q c v = rules.flow (rules.after v) []
    (asks (judged (if_open demands.LeftOpen (typestate_of s.program c)) q (behind_variables s) (codes "value") c v.set) v.log)

abbrev pub dropped : Followed → Place → Expr → List Set → Log → Flow
dropped s q e sets log = dropped_flow s q (class_or_none s (type_dropped s e)) (eval s 0 e (Some sets) log)

abbrev pub returned_flow : Followed → Place → Expr → (scope : List ℕ) → rules.Evaluated → Flow
returned_flow s q e sc v = rules.flow None [] (left s q (answer_of s (Some e)) v.set sc (rules.after v) v.log)

abbrev pub returned : Followed → Place → Expr → (scope : List ℕ) → List Set → Log → Flow
returned s q e sc sets log = returned_flow s q e sc (eval s (width_of s s.method.result) e (Some sets) log)
