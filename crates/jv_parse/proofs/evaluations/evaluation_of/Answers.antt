-- By `grind` at once, which is shorter than a search.
use Rattle.std.proofs.Common.{arith}
use Rattle.std.proofs.lemmas.Grind.{common_steps}
use Rattle.jv_grammar.specs.Stmts.{evaluation_at}
use Rattle.jv_parse.proofs.evaluations.evaluation_of.Goals as goal

pub evaluated-requires : goal.evaluated-requires
unfolding evaluation_at
evaluated-requires c = grind (arith, common_steps)

pub returns-in-None : goal.returns-in-None
unfolding evaluation_at
returns-in-None c = grind (arith, common_steps)

pub returns-in-Some-evaluated : goal.returns-in-Some-evaluated
unfolding evaluation_at
returns-in-Some-evaluated c = grind (arith, common_steps)
