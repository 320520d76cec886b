use Rattle.std.proofs.Common.{◌≡◌, ◌+◌, length, drop, None, sym, ap, subst, ◌∙◌, arith}
use Rattle.cls_tree.specs.View.{instrs_of}
use Rattle.cls_code.specs.Inner.{instr_in, size_in}
use Rattle.std.proofs.lemmas.Bool.Decides.{nat_tests}
use Rattle.std.proofs.lemmas.List.{nil_from_length}
use Rattle.cls_code.specs.Code.{unfit}
use Rattle.cls_code.proofs.Layouts.{IsRead, read_first, read_more, read_stuck, read_all, read_within, empty_short, placed_fault}
use Rattle.cls_code.proofs.reading.placed_in.Goals as goal

pub returns-then-is_empty : goal.returns-then-is_empty
returns-then-is_empty c =
    let n : length c.args.bytes.now ≡ 0 = grind (arith, nat_tests) in
    empty_short c.args.bytes.now (nil_from_length c.args.bytes.now n)

pub code-init : goal.code-init
code-init c =
    read_first c.args.bytes.now c.in_ok-instrs.instrs.items c.in_ok-starts.starts.items c.in_ok-instrs.ensures c.in_ok-starts.ensures

pub returns-in-Some : goal.returns-in-Some
returns-in-Some c =
    placed_fault c.args.bytes.now c.in-Some.fault
    (read_stuck c.args.bytes.now (λ i. omega (arith, c.type_inv.bytes i)) c.code.instrs.items c.code.instrs.items c.code.starts.items
    c.code.place c.code.invariant c.in-Some.fault c.requires c.code-test.true
    (sym (ap (unfit c.code.place) c.tail-rest.ensures) ∙ sym c.unfit_at.ensures ∙ c.in-Some.is))

pub overflow_add-place : goal.overflow_add-place
overflow_add-place c =
    let none : unfit c.code.place (drop c.code.place c.args.bytes.now) ≡ None = sym (ap (unfit c.code.place) c.tail-rest.ensures) ∙
    sym c.unfit_at.ensures ∙ c.in_default.is in
    let sized = c.in_ok-instr.ensures.size ∙ ap (size_in c.code.place) c.tail-rest.ensures in
    let w = read_within c.args.bytes.now c.code.place c.in_ok-instr.size (λ i. omega (arith, c.type_inv.bytes i)) c.code.invariant.within
    none sized in
    let a = w.0 in
    record { fits = omega arith }

pub code-smaller : goal.code-smaller
code-smaller c =
    let none : unfit c.code.place (drop c.code.place c.args.bytes.now) ≡ None = sym (ap (unfit c.code.place) c.tail-rest.ensures) ∙
    sym c.unfit_at.ensures ∙ c.in_default.is in
    let sized = c.in_ok-instr.ensures.size ∙ ap (size_in c.code.place) c.tail-rest.ensures in
    let w = read_within c.args.bytes.now c.code.place c.in_ok-instr.size (λ i. omega (arith, c.type_inv.bytes i)) c.code.invariant.within
    none sized in
    let a = w.0 in
    let b = w.1 in
    omega arith

pub code-preserved : goal.code-preserved
code-preserved c =
    let none : unfit c.code.place (drop c.code.place c.args.bytes.now) ≡ None = sym (ap (unfit c.code.place) c.tail-rest.ensures) ∙
    sym c.unfit_at.ensures ∙ c.in_default.is in
    let sized = c.in_ok-instr.ensures.size ∙ ap (size_in c.code.place) c.tail-rest.ensures in
    let is = c.in_ok-instr.ensures.instr ∙ ap (instr_in c.code.place) c.tail-rest.ensures in
    subst (λ ns. IsRead c.args.bytes.now (instrs_of c.push-in-code.new.self.items) ns (c.code.place + c.in_ok-instr.size))
    (sym c.in_ok-push.ensures.ok)
    (read_more c.args.bytes.now (λ i. omega (arith, c.type_inv.bytes i)) c.code.instrs.items c.push-in-code.new.self.items
    c.code.starts.items c.code.place c.code.invariant
    c.in_ok-instr.instr c.in_ok-instr.size none is sized c.in_ok-push-2.ensures.ok)

pub returns : goal.returns
returns c =
    read_all c.args.bytes.now (λ i. omega (arith, c.type_inv.bytes i)) c.code.instrs.items c.code.instrs.items c.code.starts.items
    c.code.place c.code.invariant
    (grind (arith, nat_tests)) c.code-test.false
