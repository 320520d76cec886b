-- By `grind` at once, since a search finds nothing here.
use Rattle.std.proofs.Common.{arith}
use Rattle.scr_trace.proofs.Searching.{look_steps}
use Rattle.scr_trace.proofs.search.find_look.Goals as goal

pub loop-arrow-preserved : goal.loop-arrow-preserved
loop-arrow-preserved c = grind (arith, look_steps)

pub returns-then-is_label_call : goal.returns-then-is_label_call
returns-then-is_label_call c = grind (arith, look_steps)
