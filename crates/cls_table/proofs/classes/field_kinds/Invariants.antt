use Rattle.std.proofs.Common.{◌≡◌, ◌++◌, map, drop, option_map}
use Rattle.vm_model.specs.View.{field_of}
use Rattle.cls_kinds.specs.Named.{kind_of}
use Rattle.cls_table.specs.Tables.{field_kind}
use Rattle.cls_table.proofs.classes.field_kinds.Given as goal

abbrev pub invariant-loop-field : goal.invariant-loop-field
invariant-loop-field l = map (option_map (kind_of l.names)) l.kinds.items ++ map (λ f. field_kind (field_of f))
    (drop l.field-index l.fields)
    ≡ map (λ f. field_kind (field_of f)) l.fields
