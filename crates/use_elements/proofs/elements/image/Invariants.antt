use Rattle.std.proofs.Common.{◌≡◌}
use Rattle.use_rules.specs.Elements.{image, marked}
use Rattle.use_elements.specs.Mappings.{mapping_of}
use Rattle.use_elements.proofs.Rests.{led_all}
use Rattle.use_elements.proofs.elements.image.Given as goal

abbrev pub invariant-loop-element : goal.invariant-loop-element
invariant-loop-element l = marked (led_all (mapping_of l.mapping) l.element-iterator) l.found ≡ image l.width (mapping_of l.mapping) l.set
