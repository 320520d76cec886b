-- What a statement is resolved to, from what its parts are.
use Rattle.std.proofs.Common.{◌≡◌, ℕ, List, [], ◌∷◌, ◌++◌, length, Option, Some, sym, ap, ◌∙◌}
use Rattle.mg_text.specs.Call.{Name}
use Rattle.mg_text.specs.declared.place.Place.{Place}
use Rattle.ts_tree.specs.declared.parts.TypeName.{TypeName}
use Rattle.jv_tree.specs.Source
use Rattle.jv_core.specs.Tree as Core
use Rattle.jv_core.specs.declared.program.CoreType.{CoreType}
use Rattle.jv_scope.specs.Named.{under}
use Rattle.jv_resolve_law.specs.Tables.{◌>>=◌, Tables, type_meant, interned}
use Rattle.jv_resolve_law.specs.Expressions.{Known, Standing, Resolved, resolved}
use Rattle.jv_resolve_law.specs.Statements.{Counted, Counting, slot_more, local}
use Rattle.jv_resolve.specs.inner.Counted.{counting}
use Rattle.jv_resolve.specs.inner.Interning.{with_number}
use Rattle.jv_resolve.specs.declared.given.Unresolved.{Unresolved}
use Rattle.jv_resolve.specs.inner.Gives.{Fails}
use Rattle.jv_resolve.proofs.Chains.{fails_then, fails_last}

-- a statement of one part
pub one_made : {A : Type 0} (o : Option A) (v : A) (make : A → Core.Stmt) (t : Core.Stmt) (s : Counted) → o ≡ Some v → t ≡ make v →
    (o >>= λ w. Some (counting (make w) s)) ≡ Some (counting t s)
one_made o v make t s h is = ap (λ q. q >>= λ w. Some (counting (make w) s)) h ∙ ap (λ u. Some (counting u s)) (sym is)

abbrev pub local_known : Name → ℕ → CoreType → Known
local_known name k t = under name (record { slot = k; ty = t })

abbrev pub one_slot : ℕ → CoreType → Core.Slot
one_slot n t = record { name = n; ty = t }

abbrev pub one_loop : Place → List ℕ → Core.Loop
one_loop p slots = record { place = p; scope = slots }

abbrev pub with_slots : List Name → List Core.Slot → List Core.Loop → Counted
with_slots names slots loops = record { names = names; slots = slots; loops = loops }

abbrev slotted : Name → Counted → CoreType → ℕ → List Name → Counting Known
slotted name s t n names = counting (local_known name (length s.slots) t) (with_slots names (s.slots ++ one_slot n t ∷ []) s.loops)

module _ (tables : Tables) where
  pub slot_made : (ty : TypeName) (name : Name) (s : Counted) (t : CoreType) (n k : ℕ) (names : List Name) (slots : List Core.Slot) →
      type_meant tables ty ≡ Some t →
      interned s.names name ≡ Some (with_number n names) → slots ≡ s.slots ++ one_slot n t ∷ [] → k ≡ length s.slots →
      slot_more tables ty name s ≡ Some (counting (local_known name k t) (with_slots names slots s.loops))
  slot_made ty name s t n k names slots typed named pushed at =
      ap (λ o. o >>= λ ty'. interned s.names name >>= λ m. Some (slotted name s ty' m.number m.names)) typed
      ∙ ap (λ o. o >>= λ m. Some (slotted name s t m.number m.names)) named
      ∙ ap (λ j. Some (counting (local_known name j t) (with_slots names (s.slots ++ one_slot n t ∷ []) s.loops))) (sym at)
      ∙ ap (λ xs. Some (counting (local_known name k t) (with_slots names xs s.loops))) (sym pushed)

  module _ (at : Standing) where
    pub declared_made : (locals : List Known) (p : Place) (ty : TypeName) (name : Name) (e : Source.Expr) (s : Counted) (r : Resolved)
        (k : Counting Known) →
        resolved tables at locals e ≡ Some r → slot_more tables ty name s ≡ Some k → local tables at p ty name e locals s ≡ Some
        (k, Core.Local p k.it.it.slot r.expr)
    declared_made locals p ty name e s r k typed slot =
        ap (λ o. o >>= λ v. slot_more tables ty name s >>= λ j. Some (j, Core.Local p j.it.it.slot v.expr)) typed
        ∙ ap (λ o. o >>= λ j. Some (j, Core.Local p j.it.it.slot r.expr)) slot

    pub declared_slot_fails : (locals : List Known) (p : Place) (ty : TypeName) (name : Name) (e : Source.Expr) (s : Counted)
        (err : Unresolved) →
        Fails err (slot_more tables ty name s) → Fails err (local tables at p ty name e locals s)
    declared_slot_fails locals p ty name e s err h =
        fails_last err (resolved tables at locals e) (slot_more tables ty name s) (λ v j. Some (j, Core.Local p j.it.it.slot v.expr)) h

    pub declared_value_fails : (locals : List Known) (p : Place) (ty : TypeName) (name : Name) (e : Source.Expr) (s : Counted)
        (err : Unresolved) →
        Fails err (resolved tables at locals e) → Fails err (local tables at p ty name e locals s)
    declared_value_fails locals p ty name e s err h =
        fails_then err (resolved tables at locals e) (λ v. slot_more tables ty name s >>= λ j. Some (j, Core.Local p j.it.it.slot v.expr)) h
