use Rattle.std.proofs.Common.{take}
use Rattle.scr_judge.specs.inner.Search.{Spreads}
use Rattle.scr_judge.proofs.round.spread.Given as goal

abbrev pub invariant-loop-node : goal.invariant-loop-node
invariant-loop-node l = Spreads (take l.node-index l.nodes) l.to l.initial.seen l.initial.waiting.items l.seen l.waiting.items
