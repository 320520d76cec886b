use Rattle.std.proofs.Common.{◌≡◌, ◌++◌, map, drop}
use Rattle.cls_kinds.specs.Named.{kinds_of}
use Rattle.cls_table.specs.Kept.{kept_kind}
use Rattle.cls_table.proofs.types.add_kinds.Given as goal

abbrev pub invariant-loop-field_type : goal.invariant-loop-field_type
invariant-loop-field_type l =
    kinds_of l.names l.kinds.items ++ map kept_kind (drop l.field_type-index l.types) ≡ kinds_of l.names l.fn.kinds.items
    ++ map kept_kind l.types
