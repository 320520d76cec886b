use Rattle.std.proofs.Common.{ap, ◌∙◌}
use Rattle.std.proofs.lemmas.Result.{IfOk-weaker}
use Rattle.jv_core.specs.Lookup.{text_at}
use Rattle.use_rules.specs.Elements.{image, along, targets}
use Rattle.use_rules.specs.Keys.{typestate_of}
use Rattle.use_flow.proofs.calling.led.Goals as goal

pub returns : goal.returns
returns c =
    let p = c.args.core.now in
    let t = typestate_of p c.args.method.now.class in
    let m = text_at p c.args.method.now.name.0 in
    IfOk-weaker c.image_along.result _ _ (λ s e.
    e ∙ ap (λ w. image w (along targets t m) c.args.set.now) c.elements_in.ensures) c.image_along.ensures
