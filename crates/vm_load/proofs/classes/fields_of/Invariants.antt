use Rattle.std.proofs.Common.{◌≡◌, map, take}
use Rattle.vm_model.specs.View.{field_of}
use Rattle.vm_model.specs.Links.{field_made}
use Rattle.vm_load.specs.Declaring.{declared_of}
use Rattle.vm_load.proofs.classes.fields_of.Given as goal

abbrev pub invariant-loop-field : goal.invariant-loop-field
invariant-loop-field l = map field_of l.fields.items ≡ map (λ d. field_made (declared_of d)) (take l.field-index l.own)
