-- By `grind` at once, since a search finds nothing here.
use Rattle.std.proofs.Common.{arith}
use Rattle.scr_judge.proofs.SpotSteps.{peers}
use Rattle.scr_judge.proofs.starts.one_peer.Goals as goal

pub loop-branch-preserved : goal.loop-branch-preserved
loop-branch-preserved c = grind (arith, peers)

pub returns-then-is_send : goal.returns-then-is_send
returns-then-is_send c = grind (arith, peers)

pub returns-then-ne : goal.returns-then-ne
returns-then-ne c = grind (arith, peers)
