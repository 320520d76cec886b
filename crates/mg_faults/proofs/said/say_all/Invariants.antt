use Rattle.std.proofs.Common.{drop}
use Rattle.mg_faults.specs.inner.Keys.{AreSaidSoFar}
use Rattle.mg_faults.proofs.said.say_all.Given as goal

abbrev pub invariant-loop-demand : goal.invariant-loop-demand
invariant-loop-demand l = AreSaidSoFar l.core l.demands (drop l.demand-index l.demands) l.lines.keys l.said.items
