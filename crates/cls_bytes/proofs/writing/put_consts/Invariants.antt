use Rattle.std.proofs.Common.{◌≡◌, ◌++◌, drop}
use Rattle.std.specs.List.{flat_map, AllByRecursion}
use Rattle.cls_tree.specs.Layout.{const_bytes}
use Rattle.cls_tree.specs.Fits.{FitsConst}
use Rattle.cls_bytes.proofs.writing.put_consts.Given as goal

abbrev pub invariant-loop-constant : goal.invariant-loop-constant
invariant-loop-constant l =
    record {
      so_far : l.out ++ flat_map const_bytes (drop l.constant-index l.constants) ≡ l.fn.out ++ flat_map const_bytes l.constants;
      fits : AllByRecursion FitsConst (drop l.constant-index l.constants);
    }
