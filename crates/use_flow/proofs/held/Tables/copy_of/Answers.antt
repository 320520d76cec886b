use Rattle.std.proofs.Common.{arith}
use Rattle.use_flow.proofs.Scenes.{scenes}
use Rattle.use_flow.proofs.held.Tables.copy_of.Goals as goal

pub returns : goal.returns
returns c = grind (arith, scenes)
