use Rattle.std.proofs.Common.{arith}
use Rattle.use_flow.proofs.Keyed.{keyed}
use Rattle.use_flow.proofs.held.Tables.number_of.Goals as goal

pub returns : goal.returns
returns c = grind (arith, keyed)
