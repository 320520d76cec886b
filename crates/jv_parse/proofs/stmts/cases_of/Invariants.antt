use Rattle.std.proofs.Common.{length}
use Rattle.mg_read.proofs.Loop.{Left}
use Rattle.jv_grammar.specs.Stmts.{is_case, case_at, cases_at}
use Rattle.jv_parse.proofs.stmts.cases_of.Given as goal

abbrev pub invariant-more : goal.invariant-more
invariant-more l = Left is_case case_at l.labels.items l.rest (cases_at l.fn.tokens)

abbrev pub decreases-more : goal.decreases-more
decreases-more l = length l.rest
