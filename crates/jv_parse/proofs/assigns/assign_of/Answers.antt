-- By `grind` at once, which is shorter than a search.
use Rattle.std.proofs.Common.{arith}
use Rattle.std.proofs.lemmas.Grind.{common_steps}
use Rattle.jv_grammar.specs.Stmts.{assign_at}
use Rattle.jv_parse.proofs.assigns.assign_of.Goals as goal

pub change_of-requires-clause-read : goal.change_of-requires-clause-read
unfolding assign_at
change_of-requires-clause-read c = grind (arith, common_steps)

pub counted_of-requires-clause-read : goal.counted_of-requires-clause-read
unfolding assign_at
counted_of-requires-clause-read c = grind (arith, common_steps)
