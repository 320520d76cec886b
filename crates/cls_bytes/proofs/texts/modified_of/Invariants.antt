use Rattle.std.proofs.Common.{◌≡◌}
use Rattle.std.specs.List.{flat_map}
use Rattle.cls_tree.specs.Modified.{modified_char}
use Rattle.cls_bytes.proofs.texts.modified_of.Given as goal

abbrev pub invariant-loop-character : goal.invariant-loop-character
invariant-loop-character l = l.out ≡ flat_map modified_char l.yielded
