use Rattle.std.proofs.Common.{◌≡◌, ◌++◌, drop, map, string_bytes}
use Rattle.std.specs.List.{flat_map}
use Rattle.jv_tree.specs.View.{field_of}
use Rattle.jv_print.specs.Layout.{field_line}
use Rattle.jv_print.proofs.files.put_fields.Given as goal

abbrev pub invariant-loop-field : goal.invariant-loop-field
invariant-loop-field l = string_bytes l.initial.out ++ flat_map field_line (map field_of l.fields) ≡ string_bytes l.out
    ++ flat_map field_line (map field_of (drop l.field-index l.fields))
