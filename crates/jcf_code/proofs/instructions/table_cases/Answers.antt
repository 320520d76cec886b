use Rattle.std.proofs.Common.{◌≤◌, arith}
use Rattle.jcf_code.proofs.Loops.{table_more, table_done}
use Rattle.jcf_code.proofs.instructions.table_cases.Goals as goal

pub loop-preserved : goal.loop-preserved
loop-preserved c =
    rw (c.in_ok-push.ensures.ok, c.tail-rest.ensures, c.case_of.ensures, c.far_landing.ensures) (table_more c.loop.cases.items c.args.place c.loop.number
    c.args.count c.loop.counter c.loop.rest.now _ c.loop-test.true c.loop.invariant)

pub returns : goal.returns
returns c =
    let over : c.args.count ≤ c.loop.counter = omega (arith, c.loop-test.false) in
    table_done c.loop.cases.items c.args.place c.loop.number c.args.count c.loop.counter c.loop.rest.now _ over c.loop.invariant
