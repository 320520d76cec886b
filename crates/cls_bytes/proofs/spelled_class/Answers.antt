use Rattle.std.proofs.Common.{◌≡◌, sym, subst, refl, None, arith}
use Rattle.cls_tree.specs.View.{class_of}
use Rattle.cls_bytes.specs.Naming.{class_names}
use Rattle.cls_bytes.specs.Reading.{class_at}
use Rattle.cls_bytes.specs.Spelling.{IsSpelled}
use Rattle.cls_bytes.proofs.Whole.{not_none}
use Rattle.cls_bytes.proofs.Named.{spelled_if}
use Rattle.cls_bytes.proofs.spelled_class.Goals as goal

pub returns-in-Ok : goal.returns-in-Ok
returns-in-Ok c =
    subst (IsSpelled c.args.bytes.now) (sym c.if_named.ensures) (spelled_if c.args.bytes.now (class_of c.in-Ok.class)
    (class_names (class_of c.in-Ok.class)) refl (λ i. omega (arith, c.type_inv.bytes i)) c.in-Ok.ensures)

pub returns-in-Err-Syntax : goal.returns-in-Err-Syntax
returns-in-Err-Syntax c =
    let none : class_at c.args.bytes.now ≡ None = rw c.in-Err-Syntax.field-0-is at c.in-Err-Syntax.ensures in
    λ class s. not_none c.args.bytes.now class none s.file s.layout
