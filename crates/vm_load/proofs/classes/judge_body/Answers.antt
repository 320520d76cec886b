-- By `grind` at once, since a search finds nothing here.
use Rattle.std.proofs.Common.{arith}
use Rattle.std.proofs.lemmas.Grind.{common_steps}
use Rattle.vm_load.proofs.classes.judge_body.Goals as goal

pub returns-clause-right : goal.returns-clause-right
returns-clause-right c = grind (arith, common_steps)
