use Rattle.std.proofs.lemmas.Result.{err_from_is_err_and}
use Rattle.cls_bytes.specs.Reading.{counted, const_at}
use Rattle.cls_bytes.proofs.Counted.{begins, goes_on, ends, is_done}
use Rattle.cls_bytes.proofs.reading.consts_of.Goals as goal

pub loop-init : goal.loop-init
loop-init c = rw c.new-constants.ensures (begins const_at c.args.count c.args.bytes.now)

pub returns-in_err-constant : goal.returns-in_err-constant
returns-in_err-constant c =
    let p = err_from_is_err_and c.from_residual.result c.from_residual.ensures.1 in
    rw (p.1, p.2) (ends const_at c.in_err-constant.field-0.0 c.loop.constants.items c.args.count c.loop.counter c.loop.rest.now
    (counted const_at c.args.count c.args.bytes.now) c.loop-test.true c.in_err-constant.ensures c.loop.invariant)

pub loop-preserved : goal.loop-preserved
loop-preserved c =
    rw c.in_ok-push.ensures.ok (goes_on const_at c.loop.constants.items c.args.count c.loop.counter c.loop.rest.now
    c.in_ok-constant.constant c.in_ok-constant.after.now (counted const_at c.args.count c.args.bytes.now) c.loop-test.true
    c.in_ok-constant.ensures c.loop.invariant)

pub returns : goal.returns
returns c = is_done const_at c.loop.constants.items c.args.count c.loop.counter c.loop.rest.now
    (counted const_at c.args.count c.args.bytes.now) c.loop-test.false c.loop.invariant
