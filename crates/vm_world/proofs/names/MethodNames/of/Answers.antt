use Rattle.std.proofs.Common.{[], refl, sym, subst, ◌∙◌}
use Rattle.std.specs.List.{AllZip}
use Rattle.vm_model.specs.View.{class_of}
use Rattle.vm_world.specs.Names.{AreClassNames}
use Rattle.vm_flat.proofs.Rows.{one_more}
use Rattle.vm_world.proofs.Naming.{grows_none, grows_two, classes_more}
use Rattle.vm_world.proofs.names.MethodNames.of.Goals as goal

pub loop-class-init : goal.loop-class-init
loop-class-init c = record {
  items = refl;
  texts = grows_none c.args.events.now.texts;
  named = subst (λ l. AllZip (AreClassNames c.args.events.now.texts) l []) (sym c.new-classes.ensures) tt;
}

pub loop-class-preserved : goal.loop-class-preserved
loop-class-preserved c = record {
  items = c.class_names.ensures.items ∙ c.loop-class.invariant.items;
  texts = grows_two c.args.events.now.texts c.loop-class.events.texts c.class_names.new.events.texts c.loop-class.invariant.texts
      c.class_names.ensures.texts;
  named = one_more (AreClassNames c.class_names.new.events.texts) class_of _ _ c.classes-class-items.result.now
      c.loop-class.class-index _ c.class-item.result c.loop-class-test.true c.class-item.is c.in_ok-push.ensures.ok
      (classes_more c.loop-class.events.texts c.class_names.new.events.texts c.class_names.ensures.texts _ _
      c.loop-class.invariant.named)
      c.in_ok-class_names.ensures.named;
}
