use Rattle.std.proofs.Common.{take}
use Rattle.vm_model.specs.View.{classes_of}
use Rattle.cls_table.specs.Tables.{AreClasses}
use Rattle.cls_table.proofs.classes.classes_kinds.Given as goal

abbrev pub invariant-loop-class : goal.invariant-loop-class
invariant-loop-class l = AreClasses l.names l.counts (classes_of (take l.class-index l.classes)) l.kinds.items
