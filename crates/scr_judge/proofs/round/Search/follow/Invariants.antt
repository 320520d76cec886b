use Rattle.std.proofs.Common.{◌≡◌, length}
use Rattle.scr_judge.proofs.round.Search.follow.Given as goal

abbrev pub invariant-loop-left : goal.invariant-loop-left
invariant-loop-left l = length l.self.ranks.items ≡ length l.initial.self.ranks.items

abbrev pub decreases-loop-left : goal.decreases-loop-left
decreases-loop-left l = l.left
