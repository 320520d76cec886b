-- By `grind` at once, since a search finds nothing here.
use Rattle.std.proofs.Common.{arith}
use Rattle.std.proofs.lemmas.Grind.{common_steps}
use Rattle.jv_scope.proofs.locals.Locals.len.Goals as goal

pub returns : goal.returns
returns g c = grind (arith, common_steps)
