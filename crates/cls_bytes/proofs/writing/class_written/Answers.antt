use Rattle.std.proofs.lemmas.Result.{err_from_is_err_and}
use Rattle.std.proofs.Common.{None, map, sym, ap, ◌∙◌}
use Rattle.cls_tree.specs.View.{attr_of, member_of, class_of}
use Rattle.cls_bytes.specs.Answer.{attrs_refusal, members_refusal}
use Rattle.cls_bytes.proofs.Refusals.{class_refused, fields_refused, methods_refused, attrs_refused}
use Rattle.cls_bytes.proofs.writing.class_written.Goals as goal

pub returns-in_err-put_members : goal.returns-in_err-put_members
returns-in_err-put_members c =
    let p = err_from_is_err_and c.from_residual-in_err-put_members.result c.from_residual-in_err-put_members.ensures.1 in
    rw (p.1, p.2) (class_refused c.in_err-put_members.field-0.0 (class_of c.args.class.now)
    (members_refusal (map member_of c.as_slice.result.now) None) c.in_err-put_members.ensures
    (λ f e. fields_refused (class_of c.args.class.now) f (ap (λ xs. members_refusal (map member_of xs) None) (sym c.as_slice.ensures.items)
    ∙ e)))

pub returns-in_err-put_members-2 : goal.returns-in_err-put_members-2
returns-in_err-put_members-2 c =
    let p = err_from_is_err_and c.from_residual-in_err-put_members-2.result c.from_residual-in_err-put_members-2.ensures.1 in
    rw (p.1, p.2) (class_refused c.in_err-put_members-2.field-0.0 (class_of c.args.class.now)
    (members_refusal (map member_of c.as_slice-2.result.now) None) c.in_err-put_members-2.ensures
    (λ f e. methods_refused (class_of c.args.class.now) (ap (λ xs. members_refusal (map member_of xs) None) (sym c.as_slice.ensures.items) ∙
    c.in_ok-put_members.ensures.none) f
    (ap (λ xs. members_refusal (map member_of xs) None) (sym c.as_slice-2.ensures.items) ∙ e)))

pub returns-in_err-put_attrs : goal.returns-in_err-put_attrs
returns-in_err-put_attrs c =
    let p = err_from_is_err_and c.from_residual-in_err-put_attrs.result c.from_residual-in_err-put_attrs.ensures.1 in
    rw (p.1, p.2) (class_refused c.in_err-put_attrs.field-0.0 (class_of c.args.class.now)
    (attrs_refusal (map attr_of c.as_slice-3.result.now) None) c.in_err-put_attrs.ensures
    (λ f e. attrs_refused (class_of c.args.class.now) (ap (λ xs. members_refusal (map member_of xs) None) (sym c.as_slice.ensures.items) ∙
    c.in_ok-put_members.ensures.none)
    (ap (λ xs. members_refusal (map member_of xs) None) (sym c.as_slice-2.ensures.items) ∙ c.in_ok-put_members-2.ensures.none) f
    (ap (λ xs. attrs_refusal (map attr_of xs) None) (sym c.as_slice-3.ensures.items) ∙ e)))
