use Rattle.std.proofs.Common.{◌≡◌, ◌≤◌, map, take}
use Rattle.std.specs.Prelude.{count_by}
use Rattle.cls_tree.specs.View.{attr_of}
use Rattle.cls_tree.specs.WellFormed.{is_code}
use Rattle.cls_bytes.proofs.reading.has_two_codes.Given as goal

abbrev pub invariant-loop-attribute : goal.invariant-loop-attribute
invariant-loop-attribute l =
    record {
      so_far : l.codes ≡ count_by is_code (map attr_of (take l.attribute-index l.attributes));
      few : l.codes ≤ l.attribute-index;
    }
