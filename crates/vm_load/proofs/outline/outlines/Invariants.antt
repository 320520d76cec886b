use Rattle.std.proofs.Common.{◌≡◌, map, take}
use Rattle.cls_tree.specs.View.{class_of}
use Rattle.vm_model.specs.Links.{outline}
use Rattle.vm_load.specs.Outlines.{outline_of}
use Rattle.vm_load.proofs.outline.outlines.Given as goal

abbrev pub invariant-loop-class : goal.invariant-loop-class
invariant-loop-class l = map outline_of l.all.items ≡ map (λ c. outline (class_of c)) (take l.class-index l.classes)
