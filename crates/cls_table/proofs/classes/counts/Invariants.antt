use Rattle.std.proofs.Common.{◌≡◌, take, length}
use Rattle.vm_model.specs.View.{classes_of}
use Rattle.cls_table.specs.Counted.{AreCounted}
use Rattle.cls_table.proofs.classes.counts.Given as goal

abbrev pub invariant-loop-class : goal.invariant-loop-class
invariant-loop-class l = (length l.counts.items ≡ length l.names) × AreCounted l.names (classes_of (take l.class-index l.classes))
    l.counts.items
