use Rattle.std.proofs.Common.{◌≡◌, drop, map}
use Rattle.jv_types.specs.Tables.{program_in}
use Rattle.jv_types.specs.inner.Methods.{fault_in_classes}
use Rattle.jv_types.specs.inner.Tabled.{class_in}
use Rattle.jv_types.proofs.methods.check_classes.Given as goal

abbrev pub invariant-loop-class : goal.invariant-loop-class
invariant-loop-class l = fault_in_classes (program_in l.table) (map class_in l.classes) ≡ fault_in_classes (program_in l.table)
    (map class_in (drop l.class-index l.classes))
