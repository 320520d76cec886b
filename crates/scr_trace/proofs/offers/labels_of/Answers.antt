-- By `grind` at once, since a search finds nothing here.
use Rattle.std.proofs.Common.{arith}
use Rattle.scr_trace.proofs.Offering.{label_steps}
use Rattle.scr_trace.proofs.offers.labels_of.Goals as goal

pub loop-i-init : goal.loop-i-init
loop-i-init c = grind (arith, label_steps)

pub loop-i-preserved : goal.loop-i-preserved
loop-i-preserved c = grind (arith, label_steps)
