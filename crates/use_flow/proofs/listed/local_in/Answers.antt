use Rattle.std.proofs.Common.{arith}
use Rattle.jv_core.proofs.ViewLaws.{views}
use Rattle.use_flow.proofs.listed.local_in.Goals as goal

pub returns-in-Block : goal.returns-in-Block
returns-in-Block c = grind (arith, views)

pub returns-in-Local : goal.returns-in-Local
returns-in-Local c = grind (arith, views)

pub returns-in-None : goal.returns-in-None
returns-in-None c = grind (arith, views)

pub returns-in-Return : goal.returns-in-Return
returns-in-Return c = grind (arith, views)

pub returns-in-Some : goal.returns-in-Some
returns-in-Some c = grind (arith, views)

pub returns-in-Switch : goal.returns-in-Switch
returns-in-Switch c = grind (arith, views)

pub returns-in-While : goal.returns-in-While
returns-in-While c = grind (arith, views)
