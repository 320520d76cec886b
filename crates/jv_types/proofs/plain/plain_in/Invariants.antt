use Rattle.std.proofs.Common.{◌≡◌, drop, map}
use Rattle.jv_types.specs.inner.Declaring.{plain_member}
use Rattle.jv_types.specs.inner.Repeating.{member_seen}
use Rattle.jv_rules.specs.inner.Deciding.{first_by}
use Rattle.jv_types.proofs.plain.plain_in.Given as goal

abbrev pub invariant-loop-item : goal.invariant-loop-item
invariant-loop-item l =
    first_by (plain_member l.typestate) (map member_seen (drop l.item-index l.members)) ≡ first_by (plain_member l.typestate)
    (map member_seen l.members)
