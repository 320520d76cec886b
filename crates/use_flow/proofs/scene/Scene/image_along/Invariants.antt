use Rattle.std.proofs.Common.{◌≡◌}
use Rattle.std.specs.Prelude.{option_map}
use Rattle.use_rules.specs.Elements.{along, image, marked}
use Rattle.use_elements.proofs.Rests.{led_all}
use Rattle.use_flow.specs.inner.Calling.{which_of}
use Rattle.jv_core.specs.Lookup.{text_at}
use Rattle.use_rules.specs.Keys.{typestate_of}
use Rattle.use_flow.specs.inner.Followed.{seen}
use Rattle.use_flow.proofs.scene.Scene.image_along.Given as goal

abbrev pub invariant-loop-element : goal.invariant-loop-element
invariant-loop-element l =
    let to = along (which_of (option_map (λ l. l.now) l.label)) (typestate_of (seen l.self).program l.call.class)
    (text_at (seen l.self).program l.call.name.0) in
    marked (led_all to l.element-iterator) l.found ≡ image l.width to l.set
