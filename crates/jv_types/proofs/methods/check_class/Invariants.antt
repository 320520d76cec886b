use Rattle.std.proofs.Common.{◌≡◌, drop, map}
use Rattle.jv_tree.specs.View.{method_of}
use Rattle.jv_types.specs.Tables.{program_in}
use Rattle.jv_types.specs.inner.Methods.{fault_in_methods}
use Rattle.jv_types.specs.inner.Tabled.{class_in}
use Rattle.jv_types.proofs.methods.check_class.Given as goal

abbrev pub invariant-loop-method : goal.invariant-loop-method
invariant-loop-method l =
    fault_in_methods (program_in l.table) (class_in l.class) (class_in l.class).methods
    ≡ fault_in_methods (program_in l.table) (class_in l.class) (map method_of (drop l.method-index l.method-items))
