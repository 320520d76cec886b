use Rattle.std.proofs.Common.{◌≡◌, ◌++◌, ◌∷◌, [], map}
use Rattle.std.proofs.lemmas.Result.{err_from_is_err_and}
use Rattle.std.proofs.lemmas.List.{map_push}
use Rattle.cls_tree.specs.View.{attr_of}
use Rattle.cls_bytes.specs.Reading.{counted, attr_at}
use Rattle.cls_bytes.proofs.Counted.{begins, goes_on, ends, is_done}
use Rattle.cls_bytes.proofs.reading.attrs_of.Goals as goal

pub loop-init : goal.loop-init
loop-init c = rw c.new-attributes.ensures (begins (attr_at c.args.pool.now c.args.of_method) c.args.count c.args.bytes.now)

pub returns-in_err-attribute : goal.returns-in_err-attribute
returns-in_err-attribute c =
    let p = err_from_is_err_and c.from_residual.result c.from_residual.ensures.1 in
    rw (p.1, p.2) (ends (attr_at c.args.pool.now c.args.of_method) c.in_err-attribute.field-0.0 (map attr_of c.loop.attributes.items)
    c.args.count c.loop.counter c.loop.rest.now (counted (attr_at c.args.pool.now c.args.of_method) c.args.count c.args.bytes.now)
    c.loop-test.true c.in_err-attribute.ensures c.loop.invariant)

pub loop-preserved : goal.loop-preserved
loop-preserved c =
    let e : map attr_of c.push.new.self.items ≡ map attr_of c.loop.attributes.items ++ attr_of c.in_ok-attribute.attribute ∷ [] =
    rw c.in_ok-push.ensures.ok (map_push _ c.loop.attributes.items c.in_ok-attribute.attribute) in
    rw e (goes_on (attr_at c.args.pool.now c.args.of_method) (map attr_of c.loop.attributes.items) c.args.count c.loop.counter
    c.loop.rest.now (attr_of c.in_ok-attribute.attribute) c.in_ok-attribute.after.now
    (counted (attr_at c.args.pool.now c.args.of_method) c.args.count c.args.bytes.now) c.loop-test.true c.in_ok-attribute.ensures
    c.loop.invariant)

pub returns : goal.returns
returns c = is_done (attr_at c.args.pool.now c.args.of_method) (map attr_of c.loop.attributes.items) c.args.count c.loop.counter
    c.loop.rest.now (counted (attr_at c.args.pool.now c.args.of_method) c.args.count c.args.bytes.now) c.loop-test.false c.loop.invariant
