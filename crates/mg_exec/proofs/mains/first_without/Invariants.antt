use Rattle.std.proofs.Common.{take}
use Rattle.mg_exec.specs.Runs.{HaveMains}
use Rattle.mg_exec.proofs.mains.first_without.Given as goal

abbrev pub invariant-loop-number : goal.invariant-loop-number
invariant-loop-number l = HaveMains l.linked (take l.number l.mains)
