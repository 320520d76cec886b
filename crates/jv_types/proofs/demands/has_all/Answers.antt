-- By `grind` at once, since a search finds nothing here.
use Rattle.std.proofs.Common.{arith}
use Rattle.jv_types.proofs.Demanding.{tables}
use Rattle.jv_types.proofs.demands.has_all.Goals as goal

pub loop-item-preserved : goal.loop-item-preserved
loop-item-preserved c = grind (arith, tables)

pub returns : goal.returns
returns c = grind (arith, tables)

pub returns-then-is_none : goal.returns-then-is_none
returns-then-is_none c = grind (arith, tables)
