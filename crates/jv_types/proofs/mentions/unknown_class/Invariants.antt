use Rattle.std.proofs.Common.{◌≡◌, drop, map}
use Rattle.jv_types.specs.Tables.{program_in}
use Rattle.jv_types.specs.inner.Declaring.{unknown_in_class}
use Rattle.jv_types.specs.inner.Tabled.{class_in}
use Rattle.jv_rules.specs.inner.Deciding.{first_by}
use Rattle.jv_types.proofs.mentions.unknown_class.Given as goal

abbrev pub invariant-loop-item : goal.invariant-loop-item
invariant-loop-item l =
    first_by (unknown_in_class (program_in l.table)) (map class_in (drop l.item-index l.entries)) ≡ first_by
    (unknown_in_class (program_in l.table)) (map class_in l.entries)
