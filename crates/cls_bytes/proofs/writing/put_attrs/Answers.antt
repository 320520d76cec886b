use Rattle.std.proofs.Common.{◌++◌, None, length, refl, sym, ap, ◌∙◌, map}
use Rattle.std.proofs.Math.ListN.{length-map}
use Rattle.std.proofs.lemmas.Result.{err_from_is_err_and}
use Rattle.cls_tree.specs.View.{attr_of}
use Rattle.cls_tree.specs.Layout.{attr_bytes}
use Rattle.cls_tree.specs.Fits.{FitsAttr}
use Rattle.cls_bytes.specs.Answer.{attr_refusal, attrs_refusal}
use Rattle.cls_tree.specs.Layout.{u2}
use Rattle.cls_bytes.proofs.Refusals.{attr_step, passed_on, left_first, left_fits, left_more, left_refused, left_last}
use Rattle.cls_bytes.proofs.writing.put_attrs.Goals as goal

pub loop-attribute-init : goal.loop-attribute-init
loop-attribute-init c = left_first attr_of attr_bytes FitsAttr (λ a. attr_refusal a None) (λ xs. attrs_refusal xs None) attr_step
    c.args.attributes.now c.put_u2.new.out c.requires.0

pub put_attr-requires : goal.put_attr-requires
put_attr-requires c = left_fits attr_of attr_bytes FitsAttr (λ a. attr_refusal a None) (λ xs. attrs_refusal xs None) attr_step
    c.args.attributes.now c.loop-attribute.attribute-index c.attribute-item.result _ c.loop-attribute.out c.loop-attribute-test.true
    c.attribute-item.is c.loop-attribute.invariant

pub loop-attribute-preserved : goal.loop-attribute-preserved
loop-attribute-preserved c = left_more attr_of attr_bytes FitsAttr (λ a. attr_refusal a None) (λ xs. attrs_refusal xs None) attr_step
    c.args.attributes.now c.loop-attribute.attribute-index c.attribute-item.result _ c.loop-attribute.out c.loop-attribute-test.true
    c.attribute-item.is c.loop-attribute.invariant c.put_attr.new.out c.in_ok-put_attr.ensures

pub returns-in_err-put_attr : goal.returns-in_err-put_attr
returns-in_err-put_attr c =
    let p = err_from_is_err_and c.from_residual-in_err-put_attr.result c.from_residual-in_err-put_attr.ensures.1 in
    rw (p.1, p.2) (passed_on c.in_err-put_attr.field-0.0 (attr_refusal (attr_of c.attribute-item.result) None)
    (attrs_refusal (map attr_of c.args.attributes.now) None) c.in_err-put_attr.ensures
    (left_refused attr_of attr_bytes FitsAttr (λ a. attr_refusal a None) (λ xs. attrs_refusal xs None) attr_step c.args.attributes.now
    c.loop-attribute.attribute-index c.attribute-item.result _ c.loop-attribute.out c.loop-attribute-test.true c.attribute-item.is
    c.loop-attribute.invariant))

pub returns : goal.returns
returns c = left_last attr_of attr_bytes FitsAttr (λ a. attr_refusal a None) (λ xs. attrs_refusal xs None) attr_step c.args.attributes.now
    c.loop-attribute.attribute-index _ c.loop-attribute.out c.args.out.now (u2 (length (map attr_of c.args.attributes.now)))
    c.loop-attribute-test.false refl
    (c.in_ok-put_u2.ensures ∙ ap (λ n. c.args.out.now ++ u2 n) (sym (length-map c.args.attributes.now attr_of))) c.loop-attribute.invariant
