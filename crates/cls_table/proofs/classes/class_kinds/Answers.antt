use Rattle.std.proofs.Common.{◌≡◌, ◌+◌, List, [], ◌∷◌, Some, map, position, refl, ap, subst, ◌∙◌}
use Rattle.std.specs.Str.{bytes_eq}
use Rattle.vm_model.specs.declared.linked.LinkedField.{LinkedField}
use Rattle.vm_model.specs.declared.linked.LinkedMethod.{LinkedMethod}
use Rattle.vm_model.specs.Linked.{is_built_in}
use Rattle.vm_model.specs.View.{field_of, method_of}
use Rattle.cls_verify.specs.Kinds.{Instance}
use Rattle.cls_kinds.specs.Named.{numbered}
use Rattle.cls_table.specs.Tables.{field_kind, AreMethods}
use Rattle.cls_table.proofs.Tabled.{instance_is}
use Rattle.cls_table.proofs.classes.class_kinds.Goals as goal

fields_kinds : (fs : List LinkedField) → map (λ f. field_kind (field_of f)) fs ≡ map field_kind (map field_of fs)
fields_kinds [] = refl
fields_kinds (f ∷ fs) = ap (λ ks. field_kind (field_of f) ∷ ks) (fields_kinds fs)

pub returns-clause-is : goal.returns-clause-is
returns-clause-is c =
    let names = c.args.names.now in
    let class = c.args.class.now in
    let number = c.number_of-number.result in
    let found : position (bytes_eq class.name) names ≡ Some number =
    subst (λ n. position (bytes_eq n) names ≡ Some number) c.as_str-name.ensures c.number_of-number.ensures.found in
    let kind : numbered names (number + 4) ≡ Instance class.name = instance_is names class.name number (number + 4) found refl in
    record {
      kind = kind;
      built_in = c.is_built_in-is_built_in.ensures ∙ ap is_built_in c.as_str-name.ensures;
      fields = c.in_ok-fields.ensures ∙ ap (map (λ f. field_kind (field_of f))) c.as_slice.ensures.items ∙ fields_kinds class.fields.items;
      methods = subst (λ (ms : List LinkedMethod). AreMethods names class.name (map method_of ms) c.in_ok-methods.methods.items)
          c.as_slice-2.ensures.items
          (c.in_ok-methods.ensures class.name kind);
    }
