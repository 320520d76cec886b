use Rattle.std.proofs.Common.{arith}
use Rattle.use_flow.specs.inner.Followed.{seen}
use Rattle.use_flow.proofs.Leaving.{field_opened}
use Rattle.use_flow.proofs.scene.Scene.judge_these.Goals as goal

pub loop-field-preserved : goal.loop-field-preserved
loop-field-preserved c =
    field_opened (seen c.args.self.now) c.args.place c.args.fields.now c.loop-field.field c.in_ok-at.at c.args.sets.now
    c.loop-field.failed.items
    c.judge_variable.new.failed.items _ (omega arith) c.in_ok-at.ensures c.in_ok-judge_variable.ensures c.loop-field.invariant
