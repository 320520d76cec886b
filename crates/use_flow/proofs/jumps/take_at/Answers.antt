use Rattle.std.proofs.Common.{arith}
use Rattle.use_flow.proofs.Jumping.{places}
use Rattle.use_flow.proofs.jumps.take_at.Goals as goal

pub returns-clause-left : goal.returns-clause-left
returns-clause-left c = grind (arith, places)
