-- By `grind` at once, since a search finds nothing here.
use Rattle.std.proofs.Common.{arith}
use Rattle.jv_types.proofs.Mentioned.{mentioned}
use Rattle.jv_types.proofs.mentions.unknown_in_members.Goals as goal

pub loop-item-preserved : goal.loop-item-preserved
loop-item-preserved c = grind (arith, mentioned)

pub returns : goal.returns
returns c = grind (arith, mentioned)

pub returns-then-is_some : goal.returns-then-is_some
returns-then-is_some c = grind (arith, mentioned)
