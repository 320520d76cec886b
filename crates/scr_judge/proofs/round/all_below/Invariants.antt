use Rattle.std.proofs.Common.{ℕ, ◌≤◌, get_or, take, Contains}
use Rattle.scr_judge.proofs.round.all_below.Given as goal

abbrev pub invariant-loop-node : goal.invariant-loop-node
invariant-loop-node l = (w : ℕ) → Contains (take l.node-index l.nodes) w → get_or l.ranks w 0 ≤ l.rank
