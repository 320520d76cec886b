-- By `grind` at once, since a search finds nothing here.
use Rattle.std.proofs.Common.{arith}
use Rattle.scr_trace.proofs.Steps.{pushes}
use Rattle.scr_trace.specs.inner.Laying.{said}
use Rattle.scr_trace.proofs.laying.Laying.put_message.Goals as goal

pub returns : goal.returns
unfolding said
returns c = grind (arith, pushes)
