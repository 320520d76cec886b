use Rattle.std.proofs.Common.{◌≡◌, ◌++◌, map, drop}
use Rattle.std.specs.List.{flat_map}
use Rattle.cls_tree.specs.View.{member_of}
use Rattle.vm_model.specs.View.{method_of}
use Rattle.vm_model.specs.Links.{lower, least, method_of_member, method_flaws}
use Rattle.vm_load.specs.Faults.{best_flaw}
use Rattle.vm_load.specs.Outlines.{outlines_of}
use Rattle.indexmap.specs.IndexMap.{get}
use Rattle.vm_load.specs.Known.{AreRight}
use Rattle.vm_load.proofs.Remembered.{use_eq}
use Rattle.vm_load.proofs.classes.judge_bodies.Given as goal

abbrev pub invariant-loop-member : goal.invariant-loop-member
invariant-loop-member l = record {
  right : map method_of l.methods.items ++ flat_map (λ m. method_of_member (outlines_of l.outlines) l.pool (member_of m))
      (drop l.member-index l.members)
      ≡ flat_map (λ m. method_of_member (outlines_of l.outlines) l.pool (member_of m)) l.members;
  wrong : lower (best_flaw l.best)
      (least (flat_map (λ m. method_flaws (outlines_of l.outlines) l.pool (member_of m)) (drop l.member-index l.members)))
      ≡ lower (best_flaw l.fn.best) (least (flat_map (λ m. method_flaws (outlines_of l.outlines) l.pool (member_of m)) l.members));
  known : AreRight (outlines_of l.outlines) l.pool (get use_eq l.known);
}
