use Rattle.std.proofs.Common.{arith}
use Rattle.std.proofs.lemmas.Grind.{common_steps}
use Rattle.use_flow.proofs.scene.Scene.head_table.Goals as goal

pub returns : goal.returns
returns c = grind (arith, common_steps)
