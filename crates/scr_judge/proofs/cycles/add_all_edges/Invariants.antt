use Rattle.std.proofs.Common.{◌≡◌, drop}
use Rattle.scr_judge.specs.inner.Round.{all_edges}
use Rattle.scr_judge.specs.inner.View.{graph_of}
use Rattle.scr_judge.proofs.cycles.add_all_edges.Given as goal

abbrev pub invariant-loop-part : goal.invariant-loop-part
invariant-loop-part l = all_edges l.names l.parts (graph_of l.initial.targets) ≡ all_edges l.names (drop l.part-index l.parts)
    (graph_of l.targets)
