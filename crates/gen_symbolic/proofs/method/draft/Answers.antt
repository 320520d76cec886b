-- By `grind` at once, since a search finds nothing here.
use Rattle.std.proofs.Common.{arith}
use Rattle.gen_symbolic.proofs.Whole.{begins}
use Rattle.gen_symbolic.proofs.method.draft.Goals as goal

pub returns : goal.returns
returns c = grind (arith, begins)
