use Rattle.std.proofs.Common.{◌≡◌, ◌<◌, ◌^◌, sym, ap, ◌∙◌, arith}
use Rattle.std.proofs.lemmas.Result.{IfOk-weaker}
use Rattle.cls_layout.specs.Faults.{cut, whole, unless}
use Rattle.cls_layout.specs.Parts.{size}
use Rattle.cls_layout.specs.Row.{number}
use Rattle.cls_layout.specs.declared.ClassFault.TheVariants as faults
use Rattle.cls_layout.proofs.Judged.{taken, space, letters_judged, code_judged, end_judged, judges_number}
use Rattle.cls_layout.proofs.judging.fault_in.Goals as goal

pub returns-then-ends_in : goal.returns-then-ends_in
returns-then-ends_in c = cut (sym c.ends_in.ensures ∙ c.if-ends_in.true)

pub slice_bounds-text_fault-end : goal.slice_bounds-text_fault-end
slice_bounds-text_fault-end c = taken c.args.bytes.now c.tail-rest.result.now c.args.field c.in-Letters.len
    (sym c.ends_in.ensures ∙ c.if-ends_in.false) (ap size c.in-Letters.is) c.tail-rest.ensures

pub slice_bounds-code_fault-end : goal.slice_bounds-code_fault-end
slice_bounds-code_fault-end c = taken c.args.bytes.now c.tail-rest.result.now c.args.field c.in-Code.len
    (sym c.ends_in.ensures ∙ c.if-ends_in.false) (ap size c.in-Code.is) c.tail-rest.ensures

pub code_fault-requires : goal.code_fault-requires
code_fault-requires c =
    let at : c.args.field.at < 2 ^ 32 = omega arith in
    let k = space c.args.bytes.now c.args.field (sym c.ends_in.ensures ∙ c.if-ends_in.false) at c.requires in
    let t = taken c.args.bytes.now c.tail-rest.result.now c.args.field c.in-Code.len (sym c.ends_in.ensures ∙ c.if-ends_in.false)
    (ap size c.in-Code.is) c.tail-rest.ensures in
    let s : size c.args.field.part ≡ c.in-Code.len = ap size c.in-Code.is in
    omega (arith, k, t, s)

pub returns-in-Letters : goal.returns-in-Letters
returns-in-Letters c =
    IfOk-weaker c.text_fault.result _ _ (λ r.
    letters_judged c.args.bytes.now c.args.places.now c.args.field c.args.later.now r
    (sym c.ends_in.ensures ∙ c.if-ends_in.false) c.tail-rest.result.now c.tail-rest.ensures
    c.in-Letters.len c.in-Letters.is) c.text_fault.ensures

pub returns-in-Code : goal.returns-in-Code
returns-in-Code c =
    IfOk-weaker c.code_fault.result _ _ (λ r.
    code_judged c.args.bytes.now c.args.places.now c.args.field c.args.later.now r
    (sym c.ends_in.ensures ∙ c.if-ends_in.false) c.tail-rest.result.now c.tail-rest.ensures
    c.in-Code.len c.in-Code.is) c.code_fault.ensures

pub returns-in-End : goal.returns-in-End
returns-in-End c =
    end_judged c.args.bytes.now c.args.places.now c.args.field c.args.later.now c.fault_unless.result
    (sym c.ends_in.ensures ∙ c.if-ends_in.false) c.tail-rest.result.now c.tail-rest.ensures
    c.in-End.is (c.fault_unless.ensures ∙ ap (λ b. unless b (faults.TrailingBytes c.args.field.at)) c.is_empty.ensures)

pub returns-in_default : goal.returns-in_default
returns-in_default c =
    let n = c.number_in.ensures in
    whole (sym c.ends_in.ensures ∙ c.if-ends_in.false)
    (judges_number c.args.bytes.now c.args.places.now c.args.later.now c.args.field.at c.number_in.result
    (number c.args.bytes.now c.args.field) _ c.number_fault.result
    c.args.field.part c.in_default.not-Letters c.in_default.not-Code c.in_default.not-End n.one n.two n.four c.number_fault.ensures)
