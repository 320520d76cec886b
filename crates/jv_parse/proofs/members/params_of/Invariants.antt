use Rattle.std.proofs.Common.{length}
use Rattle.mg_read.proofs.Loop.{Left}
use Rattle.jv_tree.specs.declared.token.Sign.TheVariants as signs
use Rattle.jv_grammar.specs.Base.{is_sign}
use Rattle.jv_grammar.specs.Files.{next_param_at, params_at}
use Rattle.jv_parse.proofs.members.params_of.Given as goal

abbrev pub invariant-more : goal.invariant-more
invariant-more l = Left (is_sign signs.Comma) next_param_at l.params.items l.rest (params_at l.fn.tokens)

abbrev pub decreases-more : goal.decreases-more
decreases-more l = length l.rest
