use Rattle.std.proofs.Common.{take}
use Rattle.mg_trace.specs.inner.Tabled.{AreMethods}
use Rattle.mg_trace.proofs.results.results_of.Given as goal

abbrev pub invariant-loop-number : goal.invariant-loop-number
invariant-loop-number l = AreMethods l.core (take l.number-index l.number-items) l.own
