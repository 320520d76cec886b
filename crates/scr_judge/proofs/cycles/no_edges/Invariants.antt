use Rattle.std.proofs.Common.{◌≡◌, [], replicate}
use Rattle.scr_judge.specs.inner.View.{graph_of}
use Rattle.scr_judge.proofs.cycles.no_edges.Given as goal

abbrev pub invariant-loop : goal.invariant-loop
invariant-loop l = graph_of l.targets.items ≡ replicate l.counter []
