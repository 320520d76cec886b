-- By `grind` at once, since a search finds nothing here.
use Rattle.std.proofs.Common.{arith}
use Rattle.scr_trace.proofs.Steps.{part_steps}
use Rattle.scr_trace.proofs.laying.lay_others.Goals as goal

pub loop-i-init : goal.loop-i-init
loop-i-init c = grind (arith, part_steps)

pub loop-i-preserved : goal.loop-i-preserved
loop-i-preserved c = grind (arith, part_steps)
