-- By `grind` at once, since a search finds nothing here.
use Rattle.std.proofs.Common.{arith}
use Rattle.scr_trace.proofs.Steps.{pushes}
use Rattle.scr_trace.specs.inner.Laying.{joined, said}
use Rattle.scr_trace.proofs.laying.join.Goals as goal

pub returns : goal.returns
unfolding joined said
returns c = grind (arith, pushes)

pub returns-then-at_self : goal.returns-then-at_self
unfolding joined said
returns-then-at_self c = grind (arith, pushes)
