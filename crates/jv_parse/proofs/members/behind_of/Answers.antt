-- By `grind` at once, which is shorter than a search.
use Rattle.std.proofs.Common.{arith}
use Rattle.std.proofs.lemmas.Grind.{common_steps}
use Rattle.jv_grammar.specs.Stmts.{items_at}
use Rattle.jv_parse.specs.inner.Members.{behind_at}
use Rattle.jv_parse.proofs.members.behind_of.Goals as goal

pub returns : goal.returns
unfolding items_at behind_at
returns c = grind (arith, common_steps)
