use Rattle.std.proofs.Common.{[], refl, sym, subst, ◌∙◌}
use Rattle.std.specs.List.{AllZip}
use Rattle.vm_events.specs.Seen.{IsNumbered}
use Rattle.vm_model.specs.View.{method_of}
use Rattle.vm_world.specs.Names.{IsMethodName}
use Rattle.vm_flat.proofs.Rows.{one_more}
use Rattle.vm_world.proofs.Naming.{grows_none, grows_two, methods_more}
use Rattle.vm_world.proofs.names.class_names.Goals as goal

pub loop-method-init : goal.loop-method-init
loop-method-init c = record {
  items = refl;
  texts = grows_none c.args.events.now.texts;
  named = subst (λ l. AllZip (IsMethodName c.args.events.now.texts) l []) (sym c.new-methods.ensures) tt;
}

pub loop-method-preserved : goal.loop-method-preserved
loop-method-preserved c = record {
  items = c.number_of.ensures.items ∙ c.loop-method.invariant.items;
  texts = grows_two c.args.events.now.texts c.loop-method.events.texts c.number_of.new.self.texts c.loop-method.invariant.texts
      c.number_of.ensures.texts;
  named = one_more (IsMethodName c.number_of.new.self.texts) method_of _ _ c.as_slice-method-items.result.now
      c.loop-method.method-index _ c.method-item.result c.loop-method-test.true c.method-item.is c.in_ok-push.ensures.ok
      (methods_more c.loop-method.events.texts c.number_of.new.self.texts c.number_of.ensures.texts _ _ c.loop-method.invariant.named)
      (subst (IsNumbered c.number_of.new.self.texts c.in_ok-number_of.field-0) c.as_str.ensures c.in_ok-number_of.ensures.number);
}
