use Rattle.std.proofs.Common.{◌≡◌, map, take}
use Rattle.vm_model.specs.Descriptors.{types_view}
use Rattle.vm_model.specs.Kept.{kept_type}
use Rattle.vm_load.proofs.kept.kept_types.Given as goal

abbrev pub invariant-loop-field_type : goal.invariant-loop-field_type
invariant-loop-field_type l = l.kept.items ≡ map kept_type (types_view (take l.field_type-index l.types))
