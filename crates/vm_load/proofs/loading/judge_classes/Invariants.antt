use Rattle.std.proofs.Common.{◌≡◌, map, take, drop}
use Rattle.std.specs.List.{flat_map}
use Rattle.cls_tree.specs.View.{class_of}
use Rattle.vm_model.specs.View as model
use Rattle.vm_model.specs.Links.{lower, least, class_flaws, linked_class}
use Rattle.vm_load.specs.Faults.{best_flaw}
use Rattle.vm_load.specs.Outlines.{outlines_of}
use Rattle.vm_load.proofs.loading.judge_classes.Given as goal

abbrev pub invariant-loop-number : goal.invariant-loop-number
invariant-loop-number l = record {
  right : map model.class_of l.linked.items ≡ map (λ c. linked_class (outlines_of l.outlines) (class_of c)) (take l.number l.classes);
  wrong : lower (best_flaw l.best)
      (least (flat_map (λ c. class_flaws (outlines_of l.outlines) (class_of c)) (drop l.number l.classes)))
      ≡ least (flat_map (λ c. class_flaws (outlines_of l.outlines) (class_of c)) l.classes);
}
