use Rattle.std.proofs.Common.{◌≡◌, drop, map}
use Rattle.jv_types.specs.inner.Declaring.{plain_in_class}
use Rattle.jv_types.specs.inner.Tabled.{class_in}
use Rattle.jv_rules.specs.inner.Deciding.{first_by}
use Rattle.jv_types.proofs.plain.instance_in_plain.Given as goal

abbrev pub invariant-loop-item : goal.invariant-loop-item
invariant-loop-item l =
    first_by plain_in_class (map class_in (drop l.item-index l.entries)) ≡ first_by plain_in_class (map class_in l.entries)
