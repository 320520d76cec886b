use Rattle.std.proofs.Common.{◌≡◌, ◌++◌, length, map}
use Rattle.jv_tree.specs.View.{method_of}
use Rattle.jv_rules.specs.Members.{OfMethod, methods_before, methods_from}
use Rattle.jv_types.specs.inner.Repeating.{member_seen}
use Rattle.jv_types.proofs.merged.add_before.Given as goal

abbrev pub invariant-front : goal.invariant-front
invariant-front l = record {
  left : methods_from l.place (map method_of l.rest) ≡ methods_from l.place (map method_of l.methods);
  added :
      map member_seen l.members.items ++ map OfMethod (methods_before l.place (map method_of l.rest))
      ≡ map member_seen l.initial.members.items ++ map OfMethod (methods_before l.place (map method_of l.methods));
}

abbrev pub decreases-front : goal.decreases-front
decreases-front l = length l.rest
