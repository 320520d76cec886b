use Rattle.std.proofs.Common.{arith}
use Rattle.use_flow.proofs.Taken.{taken}
use Rattle.use_flow.proofs.arguments.params_of.Goals as goal

pub returns : goal.returns
returns c = grind (arith, taken)
