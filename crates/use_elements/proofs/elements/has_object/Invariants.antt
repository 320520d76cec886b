use Rattle.std.proofs.Common.{◌≡◌, nat_lt}
use Rattle.std.specs.List.{list_any}
use Rattle.mg_sets.specs.Sets.{members}
use Rattle.use_elements.proofs.elements.has_object.Given as goal

abbrev pub invariant-loop-element : goal.invariant-loop-element
invariant-loop-element l = list_any (nat_lt 1) l.element-iterator ≡ list_any (nat_lt 1) (members l.set)
