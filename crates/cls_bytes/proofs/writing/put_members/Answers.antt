use Rattle.std.proofs.Common.{◌++◌, None, length, refl, sym, ap, ◌∙◌, map}
use Rattle.std.proofs.Math.ListN.{length-map}
use Rattle.std.proofs.lemmas.Result.{err_from_is_err_and}
use Rattle.cls_tree.specs.View.{member_of}
use Rattle.cls_tree.specs.Layout.{member_bytes}
use Rattle.cls_tree.specs.Fits.{FitsMember}
use Rattle.cls_bytes.specs.Answer.{attrs_refusal, members_refusal}
use Rattle.cls_tree.specs.Layout.{u2}
use Rattle.cls_bytes.proofs.Refusals.{member_step, passed_on, left_first, left_fits, left_more, left_refused, left_last}
use Rattle.cls_bytes.proofs.writing.put_members.Goals as goal

pub loop-member-init : goal.loop-member-init
loop-member-init c = left_first member_of member_bytes FitsMember (λ m. attrs_refusal m.attributes None) (λ ms. members_refusal ms None)
    member_step c.args.members.now c.put_u2.new.out c.requires.0

pub put_member-requires : goal.put_member-requires
put_member-requires c = left_fits member_of member_bytes FitsMember (λ m. attrs_refusal m.attributes None) (λ ms. members_refusal ms None)
    member_step c.args.members.now c.loop-member.member-index c.member-item.result _ c.loop-member.out c.loop-member-test.true
    c.member-item.is c.loop-member.invariant

pub loop-member-preserved : goal.loop-member-preserved
loop-member-preserved c = left_more member_of member_bytes FitsMember (λ m. attrs_refusal m.attributes None) (λ ms. members_refusal ms None)
    member_step c.args.members.now c.loop-member.member-index c.member-item.result _ c.loop-member.out c.loop-member-test.true
    c.member-item.is c.loop-member.invariant c.put_member.new.out c.in_ok-put_member.ensures

pub returns-in_err-put_member : goal.returns-in_err-put_member
returns-in_err-put_member c =
    let p = err_from_is_err_and c.from_residual-in_err-put_member.result c.from_residual-in_err-put_member.ensures.1 in
    rw (p.1, p.2) (passed_on c.in_err-put_member.field-0.0 (attrs_refusal (member_of c.member-item.result).attributes None)
    (members_refusal (map member_of c.args.members.now) None) c.in_err-put_member.ensures
    (left_refused member_of member_bytes FitsMember (λ m. attrs_refusal m.attributes None) (λ ms. members_refusal ms None) member_step
    c.args.members.now c.loop-member.member-index c.member-item.result _ c.loop-member.out c.loop-member-test.true c.member-item.is
    c.loop-member.invariant))

pub returns : goal.returns
returns c = left_last member_of member_bytes FitsMember (λ m. attrs_refusal m.attributes None) (λ ms. members_refusal ms None) member_step
    c.args.members.now c.loop-member.member-index _ c.loop-member.out c.args.out.now (u2 (length (map member_of c.args.members.now)))
    c.loop-member-test.false refl
    (c.in_ok-put_u2.ensures ∙ ap (λ n. c.args.out.now ++ u2 n) (sym (length-map c.args.members.now member_of))) c.loop-member.invariant
