use Rattle.std.proofs.Common.{arith}
use Rattle.cls_tree.specs.View.{class_of}
use Rattle.cls_layout.specs.Faults.{Fails}
use Rattle.cls_bytes.specs.Spelling.{ClassSpells}
use Rattle.cls_bytes.proofs.Named.{same_spelled, no_fault_spelled}
use Rattle.cls_bytes.proofs.read_class.Goals as goal

pub returns-in-Some-clause-found : goal.returns-in-Some-clause-found
returns-in-Some-clause-found c = rw c.in-Some.is at c.in_ok-class.ensures

pub returns-in-Some-clause-only : goal.returns-in-Some-clause-only
returns-in-Some-clause-only c = λ class s.
    let found : ClassSpells c.args.bytes.now (class_of c.in-Some.class) = rw c.in-Some.is at c.in_ok-class.ensures in
    same_spelled c.args.bytes.now (class_of c.in-Some.class) class found s

pub returns-in-Some-clause-exact : goal.returns-in-Some-clause-exact
returns-in-Some-clause-exact c = λ fault f.
    let found : ClassSpells c.args.bytes.now (class_of c.in-Some.class) = rw c.in-Some.is at c.in_ok-class.ensures in
    no_fault_spelled c.args.bytes.now (class_of c.in-Some.class) fault (λ i. omega (arith, c.type_inv.bytes i)) found f

pub refused-requires-clause-none : goal.refused-requires-clause-none
refused-requires-clause-none c = rw c.in_default.is at c.in_ok-class.ensures
