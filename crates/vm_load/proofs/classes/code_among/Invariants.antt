use Rattle.std.proofs.Common.{◌≡◌, map, drop}
use Rattle.cls_tree.specs.View.{attr_of}
use Rattle.vm_model.specs.Links.{code_among}
use Rattle.vm_load.proofs.classes.code_among.Given as goal

abbrev pub invariant-loop-attribute : goal.invariant-loop-attribute
invariant-loop-attribute l = code_among (map attr_of (drop l.attribute-index l.attributes)) ≡ code_among (map attr_of l.attributes)
