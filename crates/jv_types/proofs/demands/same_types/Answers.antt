-- By `grind` at once, since a search finds nothing here.
use Rattle.std.proofs.Common.{arith}
use Rattle.std.proofs.lemmas.Grind.{common_steps}
use Rattle.jv_types.proofs.demands.same_types.Goals as goal

pub returns : goal.returns
returns c = grind (arith, common_steps)

pub returns-in_default-split_first : goal.returns-in_default-split_first
returns-in_default-split_first c = grind (arith, common_steps)
