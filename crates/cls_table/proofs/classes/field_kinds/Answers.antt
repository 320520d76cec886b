use Rattle.std.proofs.Common.{◌∙◌, option_map, sym, ap, subst}
use Rattle.vm_model.specs.declared.linked.LinkedField.{LinkedField}
use Rattle.vm_model.specs.Types.{type_of}
use Rattle.vm_model.specs.View.{field_of}
use Rattle.cls_kinds.specs.Named.{kind_of}
use Rattle.cls_table.specs.Kept.{kept_kind}
use Rattle.cls_table.specs.Known.{KnowsOption}
use Rattle.cls_table.specs.Tables.{field_kind}
use Rattle.cls_table.proofs.Tabled.{kept_option, one_made, all_made}
use Rattle.cls_table.proofs.classes.field_kinds.Goals as goal

pub kind_of_some-requires : goal.kind_of_some-requires
kind_of_some-requires c =
    subst (λ (f : LinkedField). KnowsOption c.args.names.now f.field_type) (sym c.field-item.is)
    (c.requires c.loop-field.field-index c.field-item.result c.loop-field-test.true)

pub loop-field-preserved : goal.loop-field-preserved
loop-field-preserved c =
    let item : LinkedField = c.field-item.result in
    one_made (option_map (kind_of c.args.names.now)) (λ f. field_kind (field_of f)) c.args.fields.now c.loop-field.field-index item _ _
    c.kind_of_some.result _ c.loop-field-test.true c.field-item.is
    (c.kind_of_some.ensures ∙ ap (option_map kept_kind) item.holds ∙ kept_option (type_of item.descriptor))
    c.in_ok-push.ensures.items c.loop-field.invariant

pub returns : goal.returns
returns c =
    all_made (option_map (kind_of c.args.names.now)) (λ f. field_kind (field_of f)) c.args.fields.now c.loop-field.field-index _ _
    c.loop-field-test.false c.loop-field.invariant
