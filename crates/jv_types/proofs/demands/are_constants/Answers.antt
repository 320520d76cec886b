-- By `grind` at once, since a search finds nothing here.
use Rattle.std.proofs.Common.{arith}
use Rattle.jv_types.proofs.Demanding.{tables}
use Rattle.jv_types.proofs.demands.are_constants.Goals as goal

pub returns : goal.returns
returns c = grind (arith, tables)
