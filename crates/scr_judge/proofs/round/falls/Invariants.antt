use Rattle.std.proofs.Common.{ℕ, ◌<◌, ◌≤◌, get_or}
use Rattle.scr_judge.specs.inner.Round.{HasEdge}
use Rattle.scr_judge.specs.inner.View.{graph_of}
use Rattle.scr_judge.proofs.round.falls.Given as goal

abbrev pub invariant-loop-node : goal.invariant-loop-node
invariant-loop-node l = (v w : ℕ) → v < l.node → HasEdge (graph_of l.targets) v w → get_or l.ranks w 0 ≤ get_or l.ranks v 0
