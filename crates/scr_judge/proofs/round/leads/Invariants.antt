use Rattle.std.proofs.Common.{◌+◌, ◌*◌, length}
use Rattle.scr_judge.specs.inner.Search.{unseen}
use Rattle.scr_judge.specs.inner.View.{graph_of}
use Rattle.scr_judge.proofs.Searching.{Walked}
use Rattle.scr_judge.proofs.round.leads.Given as goal

abbrev pub invariant-nodes : goal.invariant-nodes
invariant-nodes l = Walked (graph_of l.targets) l.from l.to l.seen.items l.waiting.items

abbrev pub decreases-nodes : goal.decreases-nodes
decreases-nodes l = 2 * unseen l.seen.items + length l.waiting.items
