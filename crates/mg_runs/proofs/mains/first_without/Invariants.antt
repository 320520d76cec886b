use Rattle.std.proofs.Common.{take}
use Rattle.mg_runs.specs.Runs.{HaveMains}
use Rattle.mg_runs.proofs.mains.first_without.Given as goal

abbrev pub invariant-loop-number : goal.invariant-loop-number
invariant-loop-number l = HaveMains l.fn.core (take l.number l.mains)
