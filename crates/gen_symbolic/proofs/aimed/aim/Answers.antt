-- By `grind` at once, since a search finds nothing here.
use Rattle.std.proofs.Common.{arith}
use Rattle.gen_symbolic.proofs.Aiming.{aims}
use Rattle.gen_symbolic.proofs.aimed.aim.Goals as goal

pub loop-instr-preserved : goal.loop-instr-preserved
loop-instr-preserved c = grind (arith, aims)

pub returns : goal.returns
returns c = grind (arith, aims)
