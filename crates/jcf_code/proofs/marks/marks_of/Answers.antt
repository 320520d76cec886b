use Rattle.std.proofs.Common.{◌<◌, length, false-eqb, arith, sym, ap, ◌∙◌}
use Rattle.std.proofs.lemmas.Bool.{eqb-true}
use Rattle.jcf_code.specs.Layout.{laid}
use Rattle.jcf_code.proofs.Loops.{marks_over, marks_last, marks_more}
use Rattle.jcf_code.proofs.marks.marks_of.Goals as goal

pub returns-then-is_empty : goal.returns-then-is_empty
returns-then-is_empty c =
    marks_over c.loop.marks.items (length c.args.code.now) c.loop.counter c.args.code.now c.loop.rest.now _ c.loop-test.true
    (eqb-true _ 0 (sym c.is_empty.ensures ∙ c.if-is_empty.true)) c.loop.invariant

pub returns-in_default : goal.returns-in_default
returns-in_default c =
    let some : 0 < length c.loop.rest.now = omega (arith, false-eqb _ 0 (sym (sym c.is_empty.ensures ∙ c.if-is_empty.false))) in
    let none = ap (λ place. laid place c.loop.rest.now) (sym c.saturating_sub.ensures) ∙ sym c.laid_out.ensures.same ∙ c.in_default.is in
    marks_last c.loop.marks.items (length c.args.code.now) c.loop.counter c.args.code.now c.loop.rest.now _ _ c.loop-test.true some none
    c.loop.invariant

pub loop-preserved : goal.loop-preserved
loop-preserved c =
    let some : 0 < length c.loop.rest.now = omega (arith, false-eqb _ 0 (sym (sym c.is_empty.ensures ∙ c.if-is_empty.false))) in
    let laid_out = ap (λ place. laid place c.loop.rest.now) (sym c.saturating_sub.ensures) ∙ sym c.laid_out.ensures.same ∙ c.in-Ok.is in
    rw (c.in_ok-put_marks.ensures, c.tail-rest.ensures) (marks_more c.loop.marks.items (length c.args.code.now) c.loop.counter
    c.args.code.now c.loop.rest.now _ _ c.loop-test.true some laid_out c.loop.invariant)
