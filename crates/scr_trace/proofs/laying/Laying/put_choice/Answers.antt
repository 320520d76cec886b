-- By `grind` at once, since a search finds nothing here.
use Rattle.std.proofs.Common.{arith}
use Rattle.scr_trace.proofs.Steps.{pushes}
use Rattle.scr_trace.specs.inner.Laying.{chosen}
use Rattle.scr_trace.proofs.laying.Laying.put_choice.Goals as goal

pub returns : goal.returns
unfolding chosen
returns c = grind (arith, pushes)
