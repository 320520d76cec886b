use Rattle.std.proofs.Common.{◌≡◌, drop, map}
use Rattle.jv_tree.specs.View.{field_of}
use Rattle.jv_types.specs.Tables.{program_in}
use Rattle.jv_types.specs.inner.Declaring.{field_needs_value}
use Rattle.jv_rules.specs.inner.Deciding.{first_by}
use Rattle.jv_types.proofs.fields.fields_need_values.Given as goal

abbrev pub invariant-loop-item : goal.invariant-loop-item
invariant-loop-item l =
    first_by (field_needs_value (program_in l.table)) (map field_of (drop l.item-index l.fields)) ≡ first_by
    (field_needs_value (program_in l.table)) (map field_of l.fields)
