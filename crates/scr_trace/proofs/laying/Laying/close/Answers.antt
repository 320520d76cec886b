-- By `grind` at once, since a search finds nothing here.
use Rattle.std.proofs.Common.{arith}
use Rattle.scr_trace.specs.inner.Laying.{closed}
use Rattle.std.proofs.lemmas.Grind.{common_steps}
use Rattle.scr_trace.proofs.laying.Laying.close.Goals as goal

pub returns : goal.returns
unfolding closed
returns c = grind (arith, common_steps)
