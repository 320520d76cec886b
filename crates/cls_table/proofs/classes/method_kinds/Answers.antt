use Rattle.std.proofs.Common.{List, ◌++◌, map, refl, ap, ap₂, ◌∙◌}
use Rattle.std.specs.Prelude.{option_map}
use Rattle.vm_model.specs.declared.linked_type.LinkedType.{LinkedType}
use Rattle.vm_model.specs.Types.{signature_of}
use Rattle.vm_model.specs.Tests.{result_in}
use Rattle.cls_kinds.specs.declared.kind.Kind.{Kind}
use Rattle.cls_kinds.specs.Named.{kinds_of}
use Rattle.cls_table.specs.Kept.{kept_kind}
use Rattle.cls_table.proofs.Tabled.{receiver_kinds, params_kinds, kept_option}
use Rattle.cls_table.proofs.classes.method_kinds.Goals as goal

pub returns : goal.returns
returns c class e = record {
  takes = c.in_ok-add_kinds.ensures
      ∙ ap₂ (λ (a : List Kind) (b : List LinkedType). kinds_of c.args.names.now a ++ map kept_kind b) c.in_ok-takes.ensures
      (c.as_slice.ensures.items ∙ c.args.method.now.takes)
      ∙ ap₂ (λ x y. x ++ y) (receiver_kinds c.args.names.now c.args.receiver class c.args.method.now.is_static e)
      (params_kinds (signature_of c.args.method.now.descriptor));
  result = c.kind_of_some-result.ensures ∙ ap (option_map kept_kind) c.args.method.now.gives
      ∙ kept_option (result_in (signature_of c.args.method.now.descriptor));
  is_static = refl;
  max_locals = refl;
}
