-- By `grind` at once, since a search finds nothing here.
use Rattle.std.proofs.Common.{arith}
use Rattle.jv_types.proofs.Mentioned.{mentioned}
use Rattle.jv_types.proofs.mentions.unknown_in_member.Goals as goal

pub returns-else-is_some-3 : goal.returns-else-is_some-3
returns-else-is_some-3 c = grind (arith, mentioned)

pub returns-then-is_some-3 : goal.returns-then-is_some-3
returns-then-is_some-3 c = grind (arith, mentioned)
