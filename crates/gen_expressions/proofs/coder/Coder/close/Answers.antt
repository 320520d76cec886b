-- By `grind` at once, since a search finds nothing here.
use Rattle.std.proofs.Common.{arith}
use Rattle.gen_expressions.proofs.Written.{writes}
use Rattle.gen_expressions.proofs.coder.Coder.close.Goals as goal

pub returns-else-label-len : goal.returns-else-label-len
returns-else-label-len c = grind (arith, writes)

pub returns-then-label-len : goal.returns-then-label-len
returns-then-label-len c = grind (arith, writes)
