use Rattle.std.proofs.Common.{arith, ◌++◌, map}
use Rattle.stm_api.proofs.Made.{enum_steps}
use Rattle.stm_api.specs.Api.{enum_files}
use Rattle.stm_api.specs.View.{written_of}
use Rattle.stm_api.specs.inner.View.{doing_of}
use Rattle.stm_api.proofs.Whole.{enum_more}
use Rattle.stm_api.proofs.files.add_enums.Goals as goal

pub loop-doing-preserved : goal.loop-doing-preserved
loop-doing-preserved c =
    enum_more c.args.place c.args.me.now c.args.doings.now c.loop-doing.doing-index c.doing-item.result c.in-Asks.number c.in-Asks.field-1
    c.in-Asks.labels c.as_slice.result.now
    c.loop-doing.files.items c.push.new.self.items c.in_ok-file.file (map written_of c.args.files.now.items ++ enum_files c.args.place
    c.args.me.now (map doing_of c.args.doings.now))
    c.loop-doing-test.true c.doing-item.is c.in-Asks.is c.as_slice.ensures.items c.in_ok-file.ensures c.in_ok-push.ensures.ok
    c.loop-doing.invariant

pub loop-doing-preserved-in_default : goal.loop-doing-preserved-in_default
loop-doing-preserved-in_default c = grind (arith, enum_steps)

pub returns : goal.returns
returns c = grind (arith, enum_steps)
