-- By `grind` at once, which is shorter than a search.
use Rattle.std.proofs.Common.{arith}
use Rattle.std.proofs.lemmas.Grind.{common_steps}
use Rattle.jv_grammar.specs.Stmts.{break_at, continue_at, return_at, simple_with}
use Rattle.jv_parse.proofs.stmts.simple_of.Goals as goal

pub returns : goal.returns
unfolding simple_with break_at continue_at return_at
returns c = grind (arith, common_steps)

pub returns-then-is_assign : goal.returns-then-is_assign
unfolding simple_with break_at continue_at return_at
returns-then-is_assign c = grind (arith, common_steps)
