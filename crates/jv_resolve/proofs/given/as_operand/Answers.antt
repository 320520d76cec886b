-- By `grind` at once, which is shorter than a search.
use Rattle.std.proofs.Common.{arith}
use Rattle.std.proofs.lemmas.Grind.{common_steps}
use Rattle.jv_resolve.proofs.given.as_operand.Goals as goal

pub returns : goal.returns
returns c = grind (arith, common_steps)
