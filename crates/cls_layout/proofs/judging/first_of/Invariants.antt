use Rattle.std.proofs.Common.{drop, Option}
use Rattle.cls_layout.specs.declared.ClassFault.{ClassFault}
use Rattle.cls_layout.specs.Faults.{First}
use Rattle.cls_layout.proofs.judging.first_of.Given as goal

abbrev pub invariant-loop-index : goal.invariant-loop-index
invariant-loop-index l = (r : Option ClassFault) → First l.bytes l.places (drop l.index l.row) r → First l.bytes l.places l.row r
