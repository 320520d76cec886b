use Rattle.std.proofs.Common.{◌<◌, ◌≤◌, length, get_or, refl, subst, ap, ◌∙◌}
use Rattle.std.proofs.lemmas.Result.{err_from_is_err_and}
use Rattle.jv_core.specs.View.{class_of, field_of}
use Rattle.gen_rules.specs.Classes.{field_in_file}
use Rattle.gen_rules.specs.Limits.{OfField}
use Rattle.gen_members.proofs.Filing.{kept_more, kept_made, kept_fine, kept_fails}
use Rattle.gen_members.proofs.heads.fields.Goals as goal

pub loop-field-preserved : goal.loop-field-preserved
loop-field-preserved c = kept_more c.args.core.now (class_of c.args.class.now) field_of (field_in_file c.args.core.now)
    OfField
    (λ x pool. refl) c.args.class.now.fields.items c.loop-field.field-index c.field-item.result _ _ _ _ _ _
    (subst (λ xs. c.loop-field.field-index < length xs) c.as_slice-field-items.ensures.items c.loop-field-test.true)
    (c.field-item.is ∙ ap (λ xs. get_or xs c.loop-field.field-index c.field-item.result) c.as_slice-field-items.ensures.items)
    c.in_ok-field_in_file.ensures.made c.in_ok-field_in_file.ensures.fine c.in_ok-push.ensures.ok
    c.loop-field.invariant

pub returns-clause-made : goal.returns-clause-made
returns-clause-made c = kept_made c.args.core.now (class_of c.args.class.now) field_of (field_in_file c.args.core.now)
    OfField
    (λ x pool. refl) c.args.class.now.fields.items c.loop-field.field-index
    c.loop-field.members.items _ _
    (subst (λ xs. length xs ≤ c.loop-field.field-index) c.as_slice-field-items.ensures.items c.loop-field-test.false) c.loop-field.invariant

pub returns-clause-fine : goal.returns-clause-fine
returns-clause-fine c = kept_fine c.args.core.now (class_of c.args.class.now) field_of (field_in_file c.args.core.now)
    OfField
    (λ x pool. refl) c.args.class.now.fields.items c.loop-field.field-index
    c.loop-field.members.items _ _
    (subst (λ xs. length xs ≤ c.loop-field.field-index) c.as_slice-field-items.ensures.items c.loop-field-test.false) c.loop-field.invariant

pub returns-in_err-field_in_file-clause-fault : goal.returns-in_err-field_in_file-clause-fault
returns-in_err-field_in_file-clause-fault c =
    let e = err_from_is_err_and c.from_residual.result c.from_residual.ensures.1 in
    rw (e.1, e.2) (kept_fails c.args.core.now (class_of c.args.class.now) field_of (field_in_file c.args.core.now)
    OfField
    (λ x pool. refl) c.args.class.now.fields.items c.loop-field.field-index c.field-item.result _ _ _ _
    (subst (λ xs. c.loop-field.field-index < length xs) c.as_slice-field-items.ensures.items c.loop-field-test.true)
    (c.field-item.is ∙ ap (λ xs. get_or xs c.loop-field.field-index c.field-item.result) c.as_slice-field-items.ensures.items)
    c.in_err-field_in_file.ensures.fault c.loop-field.invariant)
