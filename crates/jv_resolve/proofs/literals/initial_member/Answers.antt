-- By `grind` at once, which is shorter than a search.
use Rattle.std.proofs.Common.{arith}
use Rattle.std.proofs.lemmas.Grind.{common_steps}
use Rattle.jv_resolve.proofs.literals.initial_member.Goals as goal

pub returns-in-Other : goal.returns-in-Other
returns-in-Other c = grind (arith, common_steps)

pub returns-in-This : goal.returns-in-This
returns-in-This c = grind (arith, common_steps)

pub returns-in_ok-resolved-in-Name : goal.returns-in_ok-resolved-in-Name
returns-in_ok-resolved-in-Name c = grind (arith, common_steps)
