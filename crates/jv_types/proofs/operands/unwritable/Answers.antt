-- By `grind` at once, since a search finds nothing here.
use Rattle.std.proofs.Common.{arith}
use Rattle.jv_types.proofs.Seen.{seen}
use Rattle.jv_types.proofs.operands.unwritable.Goals as goal

pub returns-in_default : goal.returns-in_default
returns-in_default c = grind (arith, seen)
