-- By `grind` at once, since a search finds nothing here.
use Rattle.std.proofs.Common.{arith}
use Rattle.gen_expressions.proofs.Loops.{params_more}
use Rattle.gen_expressions.proofs.locals.params.Goals as goal

pub loop-slot-preserved : goal.loop-slot-preserved
loop-slot-preserved c = grind (arith, params_more)
