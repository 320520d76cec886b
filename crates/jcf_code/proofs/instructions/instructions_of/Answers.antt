use Rattle.std.proofs.Common.{◌<◌, ◌≤◌, length, length-drop, map, false-eqb, arith, sym, ap, ◌∙◌}
use Rattle.std.proofs.lemmas.Bool.{eqb-true}
use Rattle.std.proofs.lemmas.List.{map_push}
use Rattle.jcf_code.specs.Instructions.{instruction_of}
use Rattle.jcf_code.proofs.Loops.{next_over, next_none, next_more, next_done}
use Rattle.jcf_code.proofs.instructions.instructions_of.Goals as goal

pub returns-then-is_empty : goal.returns-then-is_empty
returns-then-is_empty c =
    next_over (map instruction_of c.loop.instructions.items) (length c.args.code.now) c.loop.counter c.args.code.now c.loop.rest.now _
    c.loop-test.true (eqb-true _ 0 (sym c.is_empty.ensures ∙ c.if-is_empty.true)) c.loop.invariant.so_far

pub returns-in_default : goal.returns-in_default
returns-in_default c =
    let some : 0 < length c.loop.rest.now = omega (arith, false-eqb _ 0 (sym (sym c.is_empty.ensures ∙ c.if-is_empty.false))) in
    next_none (map instruction_of c.loop.instructions.items) (length c.args.code.now) c.loop.counter c.args.code.now c.loop.rest.now _ _
    c.loop-test.true some (sym c.laid_out.ensures.same ∙ c.in_default.is) c.loop.invariant.so_far

pub loop-preserved : goal.loop-preserved
loop-preserved c =
    let some : 0 < length c.loop.rest.now = omega (arith, false-eqb _ 0 (sym (sym c.is_empty.ensures ∙ c.if-is_empty.false))) in
    let next =
    next_more (map instruction_of c.loop.instructions.items) (length c.args.code.now) c.loop.counter c.args.code.now c.loop.rest.now _ _
    c.loop-test.true some (sym c.laid_out.ensures.same ∙ c.in-Ok.is) c.loop.invariant.so_far in
    let grown = ap (map instruction_of) c.in_ok-push.ensures.ok
    ∙ map_push instruction_of c.loop.instructions.items c.in_ok-instruction_at.field-0 in
    record {
      so_far = rw (grown, c.in_ok-instruction_at.ensures, c.tail-rest.ensures) next;
      within =
          omega (arith, ap length c.tail-rest.ensures, length-drop c.in-Ok.size c.loop.rest.now, c.loop.invariant.within);
    }

pub returns : goal.returns
returns c =
    let over : length c.args.code.now ≤ c.loop.counter = omega (arith, c.loop-test.false) in
    next_done (map instruction_of c.loop.instructions.items) (length c.args.code.now) c.loop.counter c.args.code.now c.loop.rest.now _
    over c.loop.invariant.so_far
