use Rattle.std.proofs.Common.{map}
use Rattle.jv_types.specs.Tables.{program_in}
use Rattle.jv_types.specs.inner.Methods.{fault_in_classes}
use Rattle.jv_types.specs.inner.Tabled.{class_in}
use Rattle.jv_types.proofs.MethodSteps.{no_fault, found_told}
use Rattle.jv_types.proofs.methods.type_check.Goals as goal

pub returns-in-Ok-clause-fine : goal.returns-in-Ok-clause-fine
returns-in-Ok-clause-fine c = no_fault (program_in c.args.table.now) (map class_in c.classes.result.now) c.classes.ensures.classes
    c.in-Ok.ensures

pub returns-in-Err-clause-fault : goal.returns-in-Err-clause-fault
returns-in-Err-clause-fault c =
    found_told (program_in c.args.table.now) (map class_in c.classes.result.now) c.classes.ensures.classes c.fault_of.result
    (c.fault_of.ensures (fault_in_classes (program_in c.args.table.now) (map class_in c.classes.result.now)) c.in-Err.ensures)
