-- By `grind` at once, since a search finds nothing here.
use Rattle.std.proofs.Common.{arith}
use Rattle.std.proofs.lemmas.Grind.{common_steps}
use Rattle.cls_search.proofs.waiting.Waiting.wake.Goals as goal

pub returns-then-is_waiting : goal.returns-then-is_waiting
returns-then-is_waiting c = grind (arith, common_steps)

pub returns-then-place-len : goal.returns-then-place-len
returns-then-place-len c = grind (arith, common_steps)
