use Rattle.std.proofs.Common.{◌≡◌, ◌++◌, ◌∷◌, [], map}
use Rattle.std.proofs.lemmas.Result.{err_from_is_err_and}
use Rattle.std.proofs.lemmas.List.{map_push}
use Rattle.cls_tree.specs.View.{inner_of}
use Rattle.cls_bytes.specs.Reading.{counted, inner_at}
use Rattle.cls_bytes.proofs.Counted.{begins, goes_on, ends, is_done}
use Rattle.cls_bytes.proofs.reading.inners_of.Goals as goal

pub loop-init : goal.loop-init
loop-init c = rw c.new-inners.ensures (begins inner_at c.args.count c.args.bytes.now)

pub returns-in_err-inner : goal.returns-in_err-inner
returns-in_err-inner c =
    let p = err_from_is_err_and c.from_residual.result c.from_residual.ensures.1 in
    rw (p.1, p.2) (ends inner_at c.in_err-inner.field-0.0 (map inner_of c.loop.inners.items) c.args.count c.loop.counter c.loop.rest.now
    (counted inner_at c.args.count c.args.bytes.now) c.loop-test.true c.in_err-inner.ensures c.loop.invariant)

pub loop-preserved : goal.loop-preserved
loop-preserved c =
    let e : map inner_of c.push.new.self.items ≡ map inner_of c.loop.inners.items ++ inner_of c.in_ok-inner.inner ∷ [] =
    rw c.in_ok-push.ensures.ok (map_push _ c.loop.inners.items c.in_ok-inner.inner) in
    rw e (goes_on inner_at (map inner_of c.loop.inners.items) c.args.count c.loop.counter c.loop.rest.now (inner_of c.in_ok-inner.inner)
    c.in_ok-inner.after.now (counted inner_at c.args.count c.args.bytes.now) c.loop-test.true c.in_ok-inner.ensures c.loop.invariant)

pub returns : goal.returns
returns c = is_done inner_at (map inner_of c.loop.inners.items) c.args.count c.loop.counter c.loop.rest.now
    (counted inner_at c.args.count c.args.bytes.now) c.loop-test.false c.loop.invariant
