use Rattle.std.proofs.Common.{arith}
use Rattle.use_flow.proofs.Choosing.{resting}
use Rattle.use_flow.proofs.switches.is_in.Goals as goal

pub returns : goal.returns
returns c = grind (arith, resting)
