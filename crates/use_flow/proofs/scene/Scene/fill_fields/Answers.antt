use Rattle.std.proofs.Common.{arith, ap, ◌∙◌}
use Rattle.use_flow.specs.inner.Fields.{key_in}
use Rattle.use_flow.specs.inner.Followed.{seen, with_fields_from}
use Rattle.use_flow.proofs.Turns.{fill_end}
use Rattle.use_flow.proofs.scene.Scene.fill_fields.Goals as goal

pub returns : goal.returns
returns c =
    fill_end (seen c.args.self.now) (key_in c.args.table) c.loop-field.field c.own_fields-fields.result.now c.loop-field.sets _ (omega arith)
    c.loop-field.invariant
    ∙ ap (λ fs. with_fields_from (seen c.args.self.now) (key_in c.args.table) 0 fs c.args.sets.now) c.own_fields-fields.ensures
