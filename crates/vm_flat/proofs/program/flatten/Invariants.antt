use Rattle.std.proofs.Common.{map, take}
use Rattle.std.specs.List.{AllZip}
use Rattle.vm_model.specs.View.{class_of}
use Rattle.vm_flat.specs.Flat.{IsFlatClass}
use Rattle.vm_flat.proofs.program.flatten.Given as goal

abbrev pub invariant-loop-class : goal.invariant-loop-class
invariant-loop-class l = AllZip IsFlatClass l.classes.items (map class_of (take l.class-index l.class-items))
