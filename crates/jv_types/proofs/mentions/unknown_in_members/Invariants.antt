use Rattle.std.proofs.Common.{◌≡◌, drop, map}
use Rattle.std.specs.List.{flat_map}
use Rattle.jv_rules.specs.Members.{mentions_in_member}
use Rattle.jv_rules.specs.inner.Deciding.{first_by}
use Rattle.jv_types.specs.Tables.{program_in}
use Rattle.jv_types.specs.inner.Repeating.{member_seen}
use Rattle.jv_types.specs.inner.Declaring.{unknown_class}
use Rattle.jv_types.proofs.mentions.unknown_in_members.Given as goal

abbrev pub invariant-loop-item : goal.invariant-loop-item
invariant-loop-item l =
    first_by (unknown_class (program_in l.table)) (flat_map mentions_in_member (map member_seen (drop l.item-index l.members)))
    ≡ first_by (unknown_class (program_in l.table)) (flat_map mentions_in_member (map member_seen l.members))
