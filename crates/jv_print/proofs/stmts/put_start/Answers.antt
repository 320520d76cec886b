-- By `grind` at once, since a search finds nothing here.
use Rattle.std.proofs.Common.{arith}
use Rattle.jv_print.proofs.Laid.{laid}
use Rattle.jv_print.proofs.stmts.put_start.Goals as goal

pub returns-clause-written : goal.returns-clause-written
returns-clause-written c = grind (arith, laid)
