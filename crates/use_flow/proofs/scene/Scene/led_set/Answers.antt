use Rattle.std.proofs.Common.{ap, ◌∙◌}
use Rattle.std.proofs.lemmas.Result.{IfOk-weaker}
use Rattle.jv_core.specs.Lookup.{text_at}
use Rattle.use_rules.specs.Elements.{image, along, targets_by}
use Rattle.use_rules.specs.Keys.{typestate_of}
use Rattle.use_flow.specs.inner.Followed.{seen}
use Rattle.use_flow.proofs.scene.Scene.led_set.Goals as goal

pub returns : goal.returns
returns c =
    let p = (seen c.args.self.now).program in
    let t = typestate_of p c.args.method.now.class in
    let m = text_at p c.args.method.now.name.0 in
    IfOk-weaker c.image_along.result _ _ (λ s e.
    e ∙ ap (λ l. image c.variable_width-width.result (along (targets_by l) t m) c.args.set.now) c.name_text-label.ensures
    ∙ ap (λ w. image w (along (targets_by (text_at p c.args.label.0)) t m) c.args.set.now) c.variable_width-width.ensures)
    c.image_along.ensures
