use Rattle.std.proofs.Common.{arith}
use Rattle.std.proofs.lemmas.Grind.{common_steps}
use Rattle.scr_parse.proofs.Tables.{kinds_more}
use Rattle.scr_parse.proofs.types.Types.of.Goals as goal

pub loop-declaration-preserved : goal.loop-declaration-preserved
loop-declaration-preserved c =
    kinds_more c.loop-declaration.kinds c.add_kind.new.kinds c.as_slice-declaration-items.result.now c.loop-declaration.declaration-index
    c.declaration-item.result
    c.loop-declaration-test.true c.declaration-item.is c.loop-declaration.invariant c.in_ok-add_kind.ensures

pub returns : goal.returns
returns c = grind (arith, common_steps)
