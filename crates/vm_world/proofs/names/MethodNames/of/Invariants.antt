use Rattle.std.proofs.Common.{◌≡◌, map, take}
use Rattle.std.specs.List.{AllZip}
use Rattle.vm_model.specs.View.{class_of}
use Rattle.vm_events.specs.Seen.{Grows}
use Rattle.vm_world.specs.Names.{AreClassNames}
use Rattle.vm_world.proofs.names.MethodNames.of.Given as goal

abbrev pub invariant-loop-class : goal.invariant-loop-class
invariant-loop-class l = record {
  items : l.events.items ≡ l.fn.events.items;
  texts : Grows l.fn.events.texts l.events.texts;
  named : AllZip (AreClassNames l.events.texts) l.classes.items (map class_of (take l.class-index l.class-items));
}
