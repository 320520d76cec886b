use Rattle.jv_types.proofs.Building.{fields_named, methods_named, methods_new}
use Rattle.jv_types.proofs.build.class_entry.Goals as goal

pub invariant_of-result : goal.invariant_of-result
invariant_of-result c = record {
  named_fields = fields_named c.args.class.now c.requires.new c.in_ok-fields.fields c.as_slice.result.now c.as_slice.ensures.items
      c.in_ok-fields.ensures;
  named_methods = methods_named c.args.class.now c.requires.new c.in_ok-methods.methods c.as_slice-2.result.now c.as_slice-2.ensures.items
      c.in_ok-methods.ensures;
  methods_apart = methods_new c.args.class.now c.requires.new;
  fits = c.requires.fits;
}
