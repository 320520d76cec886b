use Rattle.std.proofs.Common.{◌≡◌, drop, map}
use Rattle.jv_types.specs.inner.Repeating.{member_seen, repeat_member}
use Rattle.jv_types.proofs.repeats.member_met.Given as goal

abbrev pub invariant-loop-member : goal.invariant-loop-member
invariant-loop-member l = repeat_member l.fields l.methods (map member_seen (drop l.member-index l.members)) ≡ repeat_member
    l.initial.fields l.initial.methods (map member_seen l.members)
