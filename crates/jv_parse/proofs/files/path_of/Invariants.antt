use Rattle.std.proofs.Common.{length}
use Rattle.jv_grammar.specs.Files.{is_more_steps, next_step_at, path_at}
use Rattle.jv_parse.proofs.Walks.{Walking}
use Rattle.jv_parse.proofs.files.path_of.Given as goal

abbrev pub invariant-steps : goal.invariant-steps
invariant-steps l = Walking is_more_steps next_step_at l.rest (path_at l.fn.tokens)

abbrev pub decreases-steps : goal.decreases-steps
decreases-steps l = length l.rest
