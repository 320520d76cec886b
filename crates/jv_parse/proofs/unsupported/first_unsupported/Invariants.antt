use Rattle.std.proofs.Common.{length}
use Rattle.jv_parse.proofs.Sought.{Sought}
use Rattle.jv_parse.proofs.unsupported.first_unsupported.Given as goal

abbrev pub invariant-tokens : goal.invariant-tokens
invariant-tokens l = Sought l.rest l.fn.tokens

abbrev pub decreases-tokens : goal.decreases-tokens
decreases-tokens l = length l.rest
