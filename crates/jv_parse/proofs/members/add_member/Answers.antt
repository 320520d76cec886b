-- By `grind` at once, which is shorter than a search.
use Rattle.std.proofs.Common.{arith}
use Rattle.std.proofs.lemmas.Grind.{common_steps}
use Rattle.jv_parse.proofs.members.add_member.Goals as goal

pub returns-in-Field-clause-fields : goal.returns-in-Field-clause-fields
returns-in-Field-clause-fields c = grind (arith, common_steps)

pub returns-in-Method-clause-methods : goal.returns-in-Method-clause-methods
returns-in-Method-clause-methods c = grind (arith, common_steps)
