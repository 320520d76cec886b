use Rattle.std.proofs.Common.{◌≡◌, ◌++◌, drop, map}
use Rattle.jv_tree.specs.View.{method_of}
use Rattle.jv_rules.specs.Members.{OfMethod}
use Rattle.jv_types.specs.inner.Repeating.{member_seen}
use Rattle.jv_types.proofs.merged.add_methods.Given as goal

abbrev pub invariant-loop-method : goal.invariant-loop-method
invariant-loop-method l =
    map member_seen l.members.items ++ map OfMethod (map method_of (drop l.method-index l.methods))
    ≡ map member_seen l.initial.members.items ++ map OfMethod (map method_of l.methods)
