use Rattle.std.proofs.Common.{◌≡◌}
use Rattle.use_elements.proofs.Rows.{sets_to}
use Rattle.use_elements.proofs.sets.Sets.take_in.Given as goal

abbrev pub invariant-loop-i : goal.invariant-loop-i
invariant-loop-i l = l.self-inside.sets.items ≡ sets_to l.i l.fn.self l.other-inside.sets.items
