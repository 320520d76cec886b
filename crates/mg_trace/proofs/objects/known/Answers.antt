-- By `grind` at once, since a search finds nothing here.
use Rattle.std.proofs.Common.{arith}
use Rattle.std.proofs.lemmas.Grind.{common_steps}
use Rattle.mg_trace.proofs.objects.known.Goals as goal

pub returns-in-None-clause-class : goal.returns-in-None-clause-class
returns-in-None-clause-class c = grind (arith, common_steps)

pub returns-in-None-clause-method : goal.returns-in-None-clause-method
returns-in-None-clause-method c = grind (arith, common_steps)

pub returns-in-Some-clause-class : goal.returns-in-Some-clause-class
returns-in-Some-clause-class c = grind (arith, common_steps)

pub returns-in-Some-clause-method : goal.returns-in-Some-clause-method
returns-in-Some-clause-method c = grind (arith, common_steps)
