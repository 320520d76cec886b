-- By `grind` at once, which is shorter than a search.
use Rattle.std.proofs.Common.{arith}
use Rattle.std.proofs.lemmas.Grind.{common_steps}
use Rattle.jv_resolve.proofs.simple.given_back.Goals as goal

pub returns-in_ok-value-in-Some : goal.returns-in_ok-value-in-Some
returns-in_ok-value-in-Some c = grind (arith, common_steps)
