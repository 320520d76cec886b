-- By `grind` at once, since a search finds nothing here.
use Rattle.std.proofs.Common.{arith}
use Rattle.jv_print.proofs.Laid.{laid}
use Rattle.jv_print.proofs.stmts.put_return.Goals as goal

pub returns-in-None : goal.returns-in-None
returns-in-None c = grind (arith, laid)

pub returns-in-Some : goal.returns-in-Some
returns-in-Some c = grind (arith, laid)
