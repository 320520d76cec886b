use Rattle.std.proofs.Common.{◌≡◌, ◌++◌, drop, map}
use Rattle.jv_tree.specs.View.{class_of, field_of, method_of}
use Rattle.jv_rules.specs.Members.{merged, members_of}
use Rattle.jv_types.specs.inner.Repeating.{member_seen}
use Rattle.jv_types.proofs.merged.members.Given as goal

abbrev pub invariant-loop-field : goal.invariant-loop-field
invariant-loop-field l =
    map member_seen l.members.items ++ merged (map field_of (drop l.field-index l.class.fields.items)) (map method_of l.methods)
    ≡ members_of (class_of l.class)
