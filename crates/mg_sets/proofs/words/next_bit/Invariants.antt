use Rattle.std.proofs.Common.{◌*◌}
use Rattle.mg_sets.proofs.NextLaws.{Passed}
use Rattle.mg_sets.proofs.words.next_bit.Given as goal

abbrev pub invariant-loop-k : goal.invariant-loop-k
invariant-loop-k l = Passed l.words l.from (l.k * 64)
