use Rattle.std.proofs.Common.{◌≡◌, take}
use Rattle.use_elements.proofs.sets.Sets.copy.Given as goal

abbrev pub invariant-loop-i : goal.invariant-loop-i
invariant-loop-i l = l.sets.items ≡ take l.i l.self-inside.sets.items
