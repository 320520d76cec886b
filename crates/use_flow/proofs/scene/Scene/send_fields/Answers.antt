use Rattle.std.proofs.Common.{arith, ◌++◌, ap, ◌∙◌}
use Rattle.use_flow.specs.inner.Fields.{key_in, outs_in}
use Rattle.use_flow.specs.inner.Followed.{seen, field_outs_from}
use Rattle.use_flow.proofs.Turns.{field_end}
use Rattle.use_flow.proofs.scene.Scene.send_fields.Goals as goal

pub returns : goal.returns
returns c =
    field_end (seen c.args.self.now) (key_in c.args.table) c.args.sets.now c.loop-field.field c.own_fields-fields.result.now
    (outs_in c.loop-field.outs.items) _ (omega arith) c.loop-field.invariant
    ∙ ap (λ fs. outs_in c.args.outs.now.items ++ field_outs_from (seen c.args.self.now) (key_in c.args.table) 0 fs c.args.sets.now)
    c.own_fields-fields.ensures
