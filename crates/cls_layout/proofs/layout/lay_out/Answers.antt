use Rattle.std.proofs.Common.{◌≡◌, ◌-◌, ◌++◌, [], take, vec_len, refl, ap, ◌∙◌, arith}
use Rattle.cls_layout.specs.declared.format.Layout.{Layout}
use Rattle.cls_layout.proofs.Laid.{laying_first, laying_more, laid_last, laid_all, goes_down, went, was_last}
use Rattle.cls_layout.proofs.layout.lay_out.Goals as goal

pub returns-then-not-branch : goal.returns-then-not-branch
returns-then-not-branch c =
    let l = c.fields.layout in
    let old : Layout = record l { due = c.pop.new.self } in
    laid_last c.args.bytes.now l old c.lay.new.layout c.in-Some.part refl refl refl c.in-Some.ensures.items
    (was_last c.args.bytes.now c.in-Some.part old c.lay.new.layout c.in_ok-lay.field-0 (c.if-not-branch.true) c.in_ok-lay.ensures)
    c.fields.invariant

pub fields-smaller : goal.fields-smaller
fields-smaller c =
    let l = c.fields.layout in
    let old : Layout = record l { due = c.pop.new.self } in
    goes_down c.args.bytes.now l old c.lay.new.layout c.in-Some.part (λ i. omega (arith, c.type_inv.bytes i)) refl c.in-Some.ensures.items
    (went c.args.bytes.now c.in-Some.part old c.lay.new.layout c.in_ok-lay.field-0 (c.if-not-branch.false) c.in_ok-lay.ensures)

pub fields-preserved : goal.fields-preserved
fields-preserved c =
    let l = c.fields.layout in
    let old : Layout = record l { due = c.pop.new.self } in
    laying_more c.args.bytes.now l old c.lay.new.layout c.in-Some.part refl refl refl c.in-Some.ensures.items
    (went c.args.bytes.now c.in-Some.part old c.lay.new.layout c.in_ok-lay.field-0 (c.if-not-branch.false) c.in_ok-lay.ensures)
    c.fields.invariant

pub fields-init : goal.fields-init
fields-init c = laying_first c.args.bytes.now c.in_ok-layout.layout c.in_ok-layout.ensures

pub returns : goal.returns
returns c =
    let l = c.fields.layout in
    let none : vec_len l.due ≡ 0 = c.in_default.ensures.cases.0 in
    let less : vec_len l.due - 1 ≡ 0 = omega arith in
    laid_all c.args.bytes.now l (c.in_default.ensures.items ∙ ap (λ xs. xs ++ []) (c.in_default.ensures.rest ∙ ap (λ k. take k l.due.items)
    less)) c.fields.invariant
