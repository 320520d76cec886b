use Rattle.std.proofs.Common.{arith}
use Rattle.std.proofs.lemmas.Grind.{common_steps}
use Rattle.jv_types.specs.Tables.{program_in}
use Rattle.jv_types.proofs.MethodSteps.{entry_in}
use Rattle.jv_types.proofs.demands.missing_method.Goals as goal

pub missing_of_class-found-requires : goal.missing_of_class-found-requires
missing_of_class-found-requires c = entry_in (program_in c.args.table.now) c.args.entries.now c.requires c.loop-item.item-index
    c.item-item.result c.loop-item-test.true c.item-item.is

pub loop-item-preserved : goal.loop-item-preserved
loop-item-preserved c = grind (arith, common_steps)

pub returns : goal.returns
returns c = grind (arith, common_steps)

pub returns-then-is_some : goal.returns-then-is_some
returns-then-is_some c = grind (arith, common_steps)
