-- By `grind` at once, which is shorter than a search.
use Rattle.std.proofs.Common.{arith}
use Rattle.std.proofs.lemmas.Grind.{common_steps}
use Rattle.jv_parse.specs.inner.Members.{value_at}
use Rattle.jv_parse.proofs.members.value_of.Goals as goal

pub returns : goal.returns
unfolding value_at
returns c = grind (arith, common_steps)

pub returns-in-Some : goal.returns-in-Some
unfolding value_at
returns-in-Some c = grind (arith, common_steps)
