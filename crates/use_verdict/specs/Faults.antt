-- What a fault says of a program.
use Rattle.std.specs.Prelude.{◌≡◌, ◌≢◌}
use Rattle.jv_core.specs.Tree.{Program}
use Rattle.use_rules.specs.declared.demand.Demand.{Demand}
use Rattle.use_rules.specs.declared.demand.DemandKind.{DemandKind}
use Rattle.use_rules.specs.declared.demand.DemandKind.TheVariants as demands
use Rattle.use_verdict.specs.declared.verdict.CheckFault.{CheckFault}
use Rattle.use_verdict.specs.declared.verdict.CheckFault.TheVariants as faults
use Rattle.use_verdict.specs.Verdict.{FailsFirst}

-- the first demand that fails, of this kind
pub record Fails (p : Program) (kind : DemandKind) (d : Demand) : Type 0 where
  pub first : FailsFirst p d
  pub kind_is : d.kind ≡ kind

-- Want of memory says nothing.
abbrev pub IsFault : Program → CheckFault → Type 0
IsFault p (faults.UseMoved d) = Fails p demands.UseMoved d
IsFault p (faults.MaybeNull d) = Fails p demands.MaybeNull d
IsFault p (faults.NotOffered d) = Fails p demands.NotOffered d
IsFault p (faults.LeftOpen d) = Fails p demands.LeftOpen d
IsFault p (faults.Overwritten d) = Fails p demands.Overwritten d
IsFault p (faults.FieldOpenAtEnd d) = Fails p demands.FieldOpenAtEnd d
IsFault p faults.Memory = Unit {0}

-- the fault that a demand is
abbrev pub fault_of : Demand → CheckFault
fault_of d = elim d.kind [
  | demands.UseMoved ↦ faults.UseMoved d
  | demands.MaybeNull ↦ faults.MaybeNull d
  | demands.NotOffered ↦ faults.NotOffered d
  | demands.LeftOpen ↦ faults.LeftOpen d
  | demands.Overwritten ↦ faults.Overwritten d
  | demands.FieldOpenAtEnd ↦ faults.FieldOpenAtEnd d
]

-- A program has one fault, want of memory aside: the first demand that fails is one.
abbrev pub OneFault : Type 0
OneFault = (p : Program) (a b : CheckFault) → a ≢ faults.Memory → b ≢ faults.Memory → IsFault p a → IsFault p b → a ≡ b
