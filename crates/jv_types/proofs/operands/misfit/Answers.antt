-- By `grind` at once, since a search finds nothing here.
use Rattle.std.proofs.Common.{arith}
use Rattle.jv_types.proofs.Seen.{seen}
use Rattle.jv_types.proofs.operands.misfit.Goals as goal

pub returns : goal.returns
returns c = grind (arith, seen)
