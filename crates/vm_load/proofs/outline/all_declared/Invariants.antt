use Rattle.std.proofs.Common.{◌≡◌, map, take}
use Rattle.cls_tree.specs.View.{member_of}
use Rattle.vm_model.specs.Links.{declared}
use Rattle.vm_load.specs.Declaring.{declared_of}
use Rattle.vm_load.proofs.outline.all_declared.Given as goal

abbrev pub invariant-loop-member : goal.invariant-loop-member
invariant-loop-member l = map declared_of l.all.items ≡ map (λ m. declared l.pool (member_of m)) (take l.member-index l.members)
