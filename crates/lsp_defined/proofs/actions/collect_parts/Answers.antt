-- By `grind` at once, since a search finds nothing here.
use Rattle.std.proofs.Common.{arith}
use Rattle.lsp_defined.proofs.Collecting.{part_steps}
use Rattle.lsp_defined.proofs.actions.collect_parts.Goals as goal

pub loop-part-preserved : goal.loop-part-preserved
loop-part-preserved c = grind (arith, part_steps)

pub returns : goal.returns
returns c = grind (arith, part_steps)
