-- By `grind` at once, since a search finds nothing here.
use Rattle.std.proofs.Common.{arith}
use Rattle.jv_tree.proofs.ViewLaws.{views}
use Rattle.jv_types.proofs.simple.written_in.Goals as goal

pub returns-in-Block : goal.returns-in-Block
returns-in-Block c = grind (arith, views)

pub returns-in-If : goal.returns-in-If
returns-in-If c = grind (arith, views)

pub returns-in-Local : goal.returns-in-Local
returns-in-Local c = grind (arith, views)

pub returns-in-Return : goal.returns-in-Return
returns-in-Return c = grind (arith, views)

pub returns-in-Switch : goal.returns-in-Switch
returns-in-Switch c = grind (arith, views)
