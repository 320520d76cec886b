use Rattle.std.proofs.Common.{None, drop, map}
use Rattle.cls_tree.specs.View.{attr_of}
use Rattle.cls_tree.specs.Layout.{attr_bytes}
use Rattle.cls_tree.specs.Fits.{FitsAttr}
use Rattle.cls_bytes.specs.Answer.{attrs_refusal}
use Rattle.cls_bytes.proofs.Refusals.{Left}
use Rattle.cls_bytes.proofs.writing.put_attrs.Given as goal

abbrev pub invariant-loop-attribute : goal.invariant-loop-attribute
invariant-loop-attribute l =
    Left attr_bytes FitsAttr (λ xs. attrs_refusal xs None) (map attr_of l.attributes) (map attr_of (drop l.attribute-index l.attributes))
    l.initial.out l.out
