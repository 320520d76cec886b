-- Which condition a fault tells of, where, and with which name.
use Rattle.std.specs.Prelude.{Option, Some, None}
use Rattle.mg_read.specs.Culprit.{Culprit, culprit}
use Rattle.jv_rules.specs.declared.condition.Condition.{Condition}
use Rattle.jv_rules.specs.declared.condition.Condition.TheVariants as conditions
use Rattle.jv_types.specs.declared.fault.TypeFault.{TypeFault}
use Rattle.jv_types.specs.declared.fault.TypeFault.TheVariants as faults

-- what a fault tells, or nothing where memory ran out
abbrev pub fault_told : TypeFault → Option (Condition × Culprit)
fault_told (faults.DuplicateName place name) = Some (conditions.DuplicateName, culprit place name)
fault_told (faults.DuplicateMember place name) = Some (conditions.DuplicateMember, culprit place name)
fault_told (faults.UnknownClass place name) = Some (conditions.UnknownClass, culprit place name)
fault_told (faults.UnknownTypestate place name) = Some (conditions.UnknownTypestate, culprit place name)
fault_told (faults.MissingMethod place name) = Some (conditions.MissingMethod, culprit place name)
fault_told (faults.SignatureDiffers place name) = Some (conditions.SignatureDiffers, culprit place name)
fault_told (faults.LabelsDiffer place name) = Some (conditions.LabelsDiffer, culprit place name)
fault_told (faults.FieldNeedsValue place name) = Some (conditions.FieldNeedsValue, culprit place name)
fault_told (faults.InstanceInPlain place name) = Some (conditions.InstanceInPlain, culprit place name)
fault_told (faults.UnknownName place name) = Some (conditions.UnknownName, culprit place name)
fault_told (faults.DuplicateLocal place name) = Some (conditions.DuplicateLocal, culprit place name)
fault_told (faults.TypeMismatch place name) = Some (conditions.TypeMismatch, culprit place name)
fault_told (faults.Arity place name) = Some (conditions.Arity, culprit place name)
fault_told (faults.BadLabel place name) = Some (conditions.BadLabel, culprit place name)
fault_told (faults.MissingReturn place name) = Some (conditions.MissingReturn, culprit place name)
fault_told (faults.SelfCall place name) = Some (conditions.SelfCall, culprit place name)
fault_told (faults.ThisAsValue place name) = Some (conditions.ThisAsValue, culprit place name)
fault_told (faults.ArgsMayMove place name) = Some (conditions.ArgsMayMove, culprit place name)
fault_told faults.Memory = None

-- an error tells the fault that there is; want of memory may come at any point
abbrev pub TellsFault : (Option (Condition × Culprit) → Type 0) → TypeFault → Type 0
TellsFault Is e = elim (fault_told e) [ None ↦ Unit {0} | Some fault ↦ Is (Some fault) ]
