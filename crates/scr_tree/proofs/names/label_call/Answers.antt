-- By `grind` at once, since a search finds nothing here.
use Rattle.std.proofs.Common.{arith}
use Rattle.std.proofs.lemmas.Grind.{common_steps}
use Rattle.scr_tree.proofs.names.label_call.Goals as goal

pub returns : goal.returns
returns c = grind (arith, common_steps)
