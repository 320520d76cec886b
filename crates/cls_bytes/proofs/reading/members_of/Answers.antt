use Rattle.std.proofs.Common.{◌≡◌, ◌++◌, ◌∷◌, [], map}
use Rattle.std.proofs.lemmas.Result.{err_from_is_err_and}
use Rattle.std.proofs.lemmas.List.{map_push}
use Rattle.cls_tree.specs.View.{member_of}
use Rattle.cls_bytes.specs.Reading.{counted, member_at}
use Rattle.cls_bytes.proofs.Counted.{begins, goes_on, ends, is_done}
use Rattle.cls_bytes.proofs.reading.members_of.Goals as goal

pub loop-init : goal.loop-init
loop-init c = rw c.new-members.ensures (begins (member_at c.args.pool.now c.args.are_methods) c.args.count c.args.bytes.now)

pub returns-in_err-member : goal.returns-in_err-member
returns-in_err-member c =
    let p = err_from_is_err_and c.from_residual.result c.from_residual.ensures.1 in
    rw (p.1, p.2) (ends (member_at c.args.pool.now c.args.are_methods) c.in_err-member.field-0.0 (map member_of c.loop.members.items)
    c.args.count c.loop.counter c.loop.rest.now (counted (member_at c.args.pool.now c.args.are_methods) c.args.count c.args.bytes.now)
    c.loop-test.true c.in_err-member.ensures c.loop.invariant)

pub loop-preserved : goal.loop-preserved
loop-preserved c =
    let e : map member_of c.push.new.self.items ≡ map member_of c.loop.members.items ++ member_of c.in_ok-member.member ∷ [] =
    rw c.in_ok-push.ensures.ok (map_push _ c.loop.members.items c.in_ok-member.member) in
    rw e (goes_on (member_at c.args.pool.now c.args.are_methods) (map member_of c.loop.members.items) c.args.count c.loop.counter
    c.loop.rest.now (member_of c.in_ok-member.member) c.in_ok-member.after.now (counted (member_at c.args.pool.now c.args.are_methods)
    c.args.count c.args.bytes.now) c.loop-test.true c.in_ok-member.ensures c.loop.invariant)

pub returns : goal.returns
returns c = is_done (member_at c.args.pool.now c.args.are_methods) (map member_of c.loop.members.items) c.args.count c.loop.counter
    c.loop.rest.now (counted (member_at c.args.pool.now c.args.are_methods) c.args.count c.args.bytes.now) c.loop-test.false
    c.loop.invariant
