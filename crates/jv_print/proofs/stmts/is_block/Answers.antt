-- By `grind` at once, since a search finds nothing here.
use Rattle.std.proofs.Common.{arith}
use Rattle.jv_print.proofs.Laid.{laid}
use Rattle.jv_print.proofs.stmts.is_block.Goals as goal

pub returns-in-Block : goal.returns-in-Block
returns-in-Block c = grind (arith, laid)

pub returns-in-Empty : goal.returns-in-Empty
returns-in-Empty c = grind (arith, laid)

pub returns-in-If : goal.returns-in-If
returns-in-If c = grind (arith, laid)

pub returns-in-Return : goal.returns-in-Return
returns-in-Return c = grind (arith, laid)

pub returns-in-Switch : goal.returns-in-Switch
returns-in-Switch c = grind (arith, laid)
