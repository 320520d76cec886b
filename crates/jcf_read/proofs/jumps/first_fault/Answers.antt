use Rattle.std.proofs.Common.{◌<◌, ◌≤◌, length, false-eqb, arith, sym, ◌∙◌}
use Rattle.std.proofs.lemmas.Bool.{eqb-true}
use Rattle.jcf_read.specs.Pool.{pool_of}
use Rattle.jcf_read.proofs.Loops.{fault_over, fault_here, fault_later, fault_done}
use Rattle.jcf_read.proofs.jumps.first_fault.Goals as goal

pub returns-then-is_empty : goal.returns-then-is_empty
returns-then-is_empty c =
    fault_over (pool_of c.args.pool.now) c.args.marks.now c.args.code.now c.args.end (length c.args.code.now) c.loop.counter _
    c.loop.rest.now c.loop-test.true (eqb-true _ 0 (sym c.is_empty.ensures ∙ c.if-is_empty.true)) c.loop.invariant

pub returns-in-Err : goal.returns-in-Err
returns-in-Err c =
    let some : 0 < length c.loop.rest.now = omega (arith, false-eqb _ 0 (sym (sym c.is_empty.ensures ∙ c.if-is_empty.false))) in
    fault_here (pool_of c.args.pool.now) c.args.marks.now c.args.code.now c.args.end (length c.args.code.now) c.loop.counter _
    c.loop.rest.now _ c.loop-test.true some (sym c.judged.ensures ∙ c.in-Err.is) c.loop.invariant

pub loop-preserved : goal.loop-preserved
loop-preserved c =
    let some : 0 < length c.loop.rest.now = omega (arith, false-eqb _ 0 (sym (sym c.is_empty.ensures ∙ c.if-is_empty.false))) in
    rw c.tail-rest.ensures (fault_later (pool_of c.args.pool.now) c.args.marks.now c.args.code.now c.args.end (length c.args.code.now)
    c.loop.counter _ c.loop.rest.now _ c.loop-test.true some (sym c.judged.ensures ∙ c.in-Ok.is) c.loop.invariant)

pub returns : goal.returns
returns c =
    let over : length c.args.code.now ≤ c.loop.counter = omega (arith, c.loop-test.false) in
    fault_done (pool_of c.args.pool.now) c.args.marks.now c.args.code.now c.args.end (length c.args.code.now) c.loop.counter _
    c.loop.rest.now over c.loop.invariant
