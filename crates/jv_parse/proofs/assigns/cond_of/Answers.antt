-- By `grind` at once, which is shorter than a search.
use Rattle.std.proofs.Common.{arith}
use Rattle.std.proofs.lemmas.Grind.{common_steps}
use Rattle.jv_grammar.specs.Stmts.{cond_at}
use Rattle.jv_parse.proofs.assigns.cond_of.Goals as goal

pub returns : goal.returns
unfolding cond_at
returns c = grind (arith, common_steps)
