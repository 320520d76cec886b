use Rattle.std.proofs.Common.{length}
use Rattle.mg_read.proofs.Loop.{Left}
use Rattle.jv_grammar.specs.Files.{is_more_names, next_name_at, names_at}
use Rattle.jv_parse.proofs.decls.names_of.Given as goal

abbrev pub invariant-more : goal.invariant-more
invariant-more l = Left is_more_names next_name_at l.names.items l.rest (names_at l.fn.tokens)

abbrev pub decreases-more : goal.decreases-more
decreases-more l = length l.rest
