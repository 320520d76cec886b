-- By `grind` at once, which is shorter than a search.
use Rattle.std.proofs.Common.{arith}
use Rattle.jv_parse.proofs.Evaluating.{printing}
use Rattle.jv_parse.proofs.evaluations.print.Goals as goal

pub returns : goal.returns
returns c = grind (arith, printing)
