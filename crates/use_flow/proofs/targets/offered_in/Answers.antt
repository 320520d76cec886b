use Rattle.std.proofs.Common.{arith}
use Rattle.use_flow.proofs.Seeking.{seeking}
use Rattle.use_flow.proofs.targets.offered_in.Goals as goal

pub returns : goal.returns
returns c = grind (arith, seeking)
