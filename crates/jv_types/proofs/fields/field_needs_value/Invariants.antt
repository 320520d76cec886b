use Rattle.std.proofs.Common.{◌≡◌, drop, map}
use Rattle.jv_types.specs.Tables.{program_in}
use Rattle.jv_types.specs.inner.Declaring.{fields_need_values}
use Rattle.jv_types.specs.inner.Tabled.{class_in}
use Rattle.jv_rules.specs.inner.Deciding.{first_by}
use Rattle.jv_types.proofs.fields.field_needs_value.Given as goal

abbrev pub invariant-loop-item : goal.invariant-loop-item
invariant-loop-item l =
    first_by (fields_need_values (program_in l.table)) (map class_in (drop l.item-index l.entries)) ≡ first_by
    (fields_need_values (program_in l.table)) (map class_in l.entries)
