use Rattle.std.proofs.Common.{List, ℕ, Option, Some, None}
use Rattle.std.proofs.lemmas.Result.{IfOk-weaker}
use Rattle.cls_layout.specs.declared.format.Field.{Field}
use Rattle.cls_layout.specs.declared.ClassFault.{ClassFault}
use Rattle.cls_layout.specs.Row.{LaysAll}
use Rattle.cls_layout.specs.Faults.{First, Found}
use Rattle.cls_layout.proofs.first_fault.Goals as goal

found_so : (bytes : List ℕ) (row : List Field) (places : List ℕ) → LaysAll bytes row places → (r : Option ClassFault) →
    First bytes places row r → Found bytes r
found_so bytes row places l None f = record { row = row; places = places; lays = l; first = f }
found_so bytes row places l (Some fault) f = record { row = row; places = places; lays = l; first = f }

pub returns : goal.returns
returns c =
    IfOk-weaker c.first_of.result _ _ (found_so c.args.bytes.now _ _ c.in_ok-layout.ensures)
    (rw (c.as_slice.ensures.items, c.as_slice-2.ensures.items) at c.first_of.ensures)
