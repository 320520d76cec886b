use Rattle.std.proofs.Common.{◌≡◌, drop, map}
use Rattle.jv_rules.specs.Members.{param_mention}
use Rattle.jv_types.specs.Tables.{program_in}
use Rattle.jv_types.specs.inner.Declaring.{unknown_class}
use Rattle.jv_rules.specs.inner.Deciding.{first_by}
use Rattle.jv_types.proofs.mentions.unknown_in_params.Given as goal

abbrev pub invariant-loop-item : goal.invariant-loop-item
invariant-loop-item l =
    first_by (unknown_class (program_in l.table)) (map param_mention (drop l.item-index l.params)) ≡ first_by
    (unknown_class (program_in l.table)) (map param_mention l.params)
