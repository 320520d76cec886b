use Rattle.std.proofs.Common.{◌≡◌, ℕ, sym, ◌∙◌, subst, arith}
use Rattle.std.specs.Prelude.{Err}
use Rattle.cls_tree.specs.declared.class.Class.{Class}
use Rattle.cls_layout.specs.declared.ClassFault.{ClassFault}
use Rattle.cls_layout.specs.declared.ClassFault.TheVariants as faults
use Rattle.cls_layout.specs.Faults.{Fails, IsRight}
use Rattle.cls_bytes.specs.Spelling.{ClassSpells, IsFaultOrMemory}
use Rattle.cls_bytes.proofs.RightRows.{right_spells}
use Rattle.cls_bytes.proofs.Single.{one_fault}
use Rattle.cls_bytes.proofs.refused.Goals as goal

same_fault : (A : Type 0) (f g : ClassFault) → f ≡ g → IsFaultOrMemory {A = A} (Err f) g
same_fault A (faults.BadMagic n) g e = e
same_fault A (faults.Version n) g e = e
same_fault A (faults.Short n) g e = e
same_fault A (faults.TrailingBytes n) g e = e
same_fault A (faults.BadTag n) g e = e
same_fault A (faults.BadIndex n) g e = e
same_fault A (faults.BadText n) g e = e
same_fault A (faults.BadAttribute n) g e = e
same_fault A (faults.Unsupported n) g e = e
same_fault A (faults.Code f) g e = e
same_fault A faults.Memory g e = tt

pub returns-in-Some-clause-only : goal.returns-in-Some-clause-only
returns-in-Some-clause-only c = λ class s. absurd (c.requires.none class s)

pub returns-in-Some-clause-exact : goal.returns-in-Some-clause-exact
returns-in-Some-clause-exact c = λ fault g.
    let f : Fails c.args.bytes.now c.in-Some.fault = rw c.in-Some.is at c.in_ok-fault.ensures in
    same_fault Class c.in-Some.fault fault (one_fault c.args.bytes.now c.in-Some.fault fault f g)

pub unreachable-requires : goal.unreachable-requires
unreachable-requires c =
    let r : IsRight c.args.bytes.now = rw c.in_default.is at c.in_ok-fault.ensures in
    let s = right_spells c.args.bytes.now r.row r.places (λ i. omega (arith, c.type_inv.bytes i)) r.lays r.first in
    c.requires.none s.0 s.2
