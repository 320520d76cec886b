-- By `grind` at once, which is shorter than a search.
use Rattle.std.proofs.Common.{arith}
use Rattle.std.proofs.lemmas.Grind.{common_steps}
use Rattle.jv_grammar.specs.Exprs.{expr_at}
use Rattle.jv_grammar.specs.Stmts.{ended_at}
use Rattle.jv_parse.proofs.assigns.ended_of.Goals as goal

pub returns-clause-read : goal.returns-clause-read
unfolding ended_at expr_at
returns-clause-read c = grind (arith, common_steps)
