-- By `grind` at once, since a search finds nothing here.
use Rattle.std.proofs.Common.{arith}
use Rattle.gen_expressions.proofs.Loops.{scopes}
use Rattle.gen_expressions.proofs.locals.local_in.Goals as goal

pub loop-below-init : goal.loop-below-init
loop-below-init c = grind (arith, scopes)

pub loop-below-preserved : goal.loop-below-preserved
loop-below-preserved c = grind (arith, scopes)
