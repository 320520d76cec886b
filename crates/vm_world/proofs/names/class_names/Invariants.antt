use Rattle.std.proofs.Common.{◌≡◌, map, take}
use Rattle.std.specs.List.{AllZip}
use Rattle.vm_model.specs.View.{method_of}
use Rattle.vm_events.specs.Seen.{Grows}
use Rattle.vm_world.specs.Names.{IsMethodName}
use Rattle.vm_world.proofs.names.class_names.Given as goal

abbrev pub invariant-loop-method : goal.invariant-loop-method
invariant-loop-method l = record {
  items : l.events.items ≡ l.fn.events.items;
  texts : Grows l.fn.events.texts l.events.texts;
  named : AllZip (IsMethodName l.events.texts) l.methods.items (map method_of (take l.method-index l.method-items));
}
