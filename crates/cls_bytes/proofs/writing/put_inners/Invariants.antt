use Rattle.std.proofs.Common.{◌≡◌, ◌++◌, drop, map}
use Rattle.std.specs.List.{flat_map, AllByRecursion}
use Rattle.cls_tree.specs.View.{inner_of}
use Rattle.cls_tree.specs.Layout.{inner_bytes}
use Rattle.cls_tree.specs.Fits.{FitsInner}
use Rattle.cls_bytes.proofs.writing.put_inners.Given as goal

abbrev pub invariant-loop-attribute : goal.invariant-loop-attribute
invariant-loop-attribute l =
    record {
      so_far : l.out ++ flat_map inner_bytes (map inner_of (drop l.attribute-index l.attributes)) ≡ l.fn.out ++ flat_map inner_bytes
          (map inner_of l.attributes);
      fits : AllByRecursion FitsInner (map inner_of (drop l.attribute-index l.attributes));
    }
