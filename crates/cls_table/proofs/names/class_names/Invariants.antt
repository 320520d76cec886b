use Rattle.std.proofs.Common.{take}
use Rattle.vm_model.specs.View.{classes_of}
use Rattle.cls_table.specs.Known.{KnowsNames}
use Rattle.cls_table.proofs.names.class_names.Given as goal

abbrev pub invariant-loop-class : goal.invariant-loop-class
invariant-loop-class l = KnowsNames l.names (classes_of (take l.class-index l.classes))
