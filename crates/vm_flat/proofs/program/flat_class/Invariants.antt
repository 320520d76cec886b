use Rattle.std.proofs.Common.{map, take}
use Rattle.std.specs.List.{AllZip}
use Rattle.vm_model.specs.View.{method_of}
use Rattle.vm_flat.specs.Flat.{IsFlatMethod}
use Rattle.vm_flat.proofs.program.flat_class.Given as goal

abbrev pub invariant-loop-method : goal.invariant-loop-method
invariant-loop-method l = AllZip IsFlatMethod l.methods.items (map method_of (take l.method-index l.method-items))
