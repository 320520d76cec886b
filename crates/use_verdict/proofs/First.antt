-- The first demand that fails is one: the least tables have the same members, and these decide what fails.
use Rattle.std.proofs.Common.{◌≡◌, Some, slice_get, sym, ap, subst, ◌∙◌, refl}
use Rattle.jv_core.specs.Tree.{Program}
use Rattle.use_rules.specs.declared.demand.Demand.{Demand}
use Rattle.use_rules.specs.declared.demand.DemandKind.{DemandKind}
use Rattle.use_rules.specs.declared.demand.DemandKind.TheVariants as demands
use Rattle.use_rules.specs.Tables.{all_failed, Least}
use Rattle.use_rules.proofs.Laws.{members_decide}
use Rattle.use_flow.proofs.Reached.{reached_same}
use Rattle.use_verdict.specs.declared.verdict.CheckFault.{CheckFault}
use Rattle.use_verdict.specs.declared.verdict.CheckFault.TheVariants as faults
use Rattle.use_verdict.specs.Verdict.{FailsFirst}
use Rattle.use_verdict.specs.Faults.{IsFault, fault_of, OneFault}

some_same : {A : Type 0} (x y : A) → Some x ≡ Some y → x ≡ y
some_same x y e = cc

pub one_demand : (p : Program) (a b : Demand) → FailsFirst p a → FailsFirst p b → a ≡ b
one_demand p a b x y =
    let r : y.reached ≡ x.reached = reached_same p y.reached x.reached y.are x.are in
    let least : Least p x.reached y.tables = subst (λ r. Least p r y.tables) r y.least in
    let first : slice_get (all_failed p x.reached y.tables) 0 ≡ Some b = subst (λ r. slice_get (all_failed p r y.tables) 0 ≡ Some b) r
    y.first in
    let same : all_failed p x.reached x.tables ≡ all_failed p x.reached y.tables = members_decide p x.reached x.tables y.tables
    (record { each = x.least.within y.tables least.closed }) (record { each = least.within x.tables x.least.closed }) in
    some_same a b (sym x.first ∙ ap (λ ds. slice_get ds 0) same ∙ first)

-- the demand that a fault is
record HasDemand (p : Program) (e : CheckFault) : Type 0 where
  demand : Demand
  first : FailsFirst p demand
  is : e ≡ fault_of demand

by_kind : Demand → DemandKind → CheckFault
by_kind d k = elim k [
  | demands.UseMoved ↦ faults.UseMoved d
  | demands.MaybeNull ↦ faults.MaybeNull d
  | demands.NotOffered ↦ faults.NotOffered d
  | demands.LeftOpen ↦ faults.LeftOpen d
  | demands.Overwritten ↦ faults.Overwritten d
  | demands.FieldOpenAtEnd ↦ faults.FieldOpenAtEnd d
]

demand_behind : (p : Program) (e : CheckFault) → (e ≡ faults.Memory → ⊥) → IsFault p e → HasDemand p e
unfolding by_kind
demand_behind p (faults.UseMoved d) n f = record { demand = d; first = f.first; is = ap (by_kind d) (sym f.kind_is) }
demand_behind p (faults.MaybeNull d) n f = record { demand = d; first = f.first; is = ap (by_kind d) (sym f.kind_is) }
demand_behind p (faults.NotOffered d) n f = record { demand = d; first = f.first; is = ap (by_kind d) (sym f.kind_is) }
demand_behind p (faults.LeftOpen d) n f = record { demand = d; first = f.first; is = ap (by_kind d) (sym f.kind_is) }
demand_behind p (faults.Overwritten d) n f = record { demand = d; first = f.first; is = ap (by_kind d) (sym f.kind_is) }
demand_behind p (faults.FieldOpenAtEnd d) n f = record { demand = d; first = f.first; is = ap (by_kind d) (sym f.kind_is) }
demand_behind p faults.Memory n f = absurd (n refl)

pub one_fault : OneFault
one_fault p a b n m x y =
    let t : HasDemand p a = demand_behind p a n x in
    let s : HasDemand p b = demand_behind p b m y in
    t.is ∙ ap fault_of (one_demand p t.demand s.demand t.first s.first) ∙ sym s.is
