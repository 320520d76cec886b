-- By `grind` at once, since a search finds nothing here.
use Rattle.std.proofs.Common.{arith}
use Rattle.gen_expressions.proofs.Written.{writes}
use Rattle.gen_expressions.proofs.coder.Coder.open.Goals as goal

pub returns-clause-draft : goal.returns-clause-draft
returns-clause-draft c = grind (arith, writes)

pub returns-clause-number : goal.returns-clause-number
returns-clause-number c = grind (arith, writes)
