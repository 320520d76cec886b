-- By `grind` at once, since a search finds nothing here.
use Rattle.std.proofs.Common.{arith}
use Rattle.std.proofs.lemmas.Grind.{common_steps}
use Rattle.vm_step.proofs.needs.taking.Goals as goal

pub returns-clause-needs : goal.returns-clause-needs
returns-clause-needs c = grind (arith, common_steps)
