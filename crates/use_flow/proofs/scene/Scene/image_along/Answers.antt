use Rattle.std.proofs.Common.{ℕ, List, refl}
use Rattle.std.specs.Prelude.{option_map}
use Rattle.use_rules.specs.Elements.{along}
use Rattle.use_flow.specs.inner.Calling.{which_of}
use Rattle.jv_core.specs.Lookup.{text_at}
use Rattle.use_rules.specs.Keys.{typestate_of}
use Rattle.use_flow.specs.inner.Followed.{seen}
use Rattle.use_elements.proofs.Rests.{image_turn}
use Rattle.use_flow.proofs.scene.Scene.image_along.Goals as goal

pub loop-element-preserved : goal.loop-element-preserved
loop-element-preserved c =
    let to : ℕ → List ℕ = along (which_of (option_map (λ l. l.now) c.args.label))
    (typestate_of (seen c.args.self.now).program c.args.call.class) (text_at (seen c.args.self.now).program c.args.call.name.0) in
    image_turn to c.in-Some.element c.loop-element.element-iterator c.next.new.self (to c.in-Some.element) c.loop-element.found
    c.mark_led.new.found _ c.in-Some.ensures.steps refl c.mark_led.ensures c.loop-element.invariant
