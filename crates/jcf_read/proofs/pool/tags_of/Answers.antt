use Rattle.std.proofs.Common.{◌<◌, length, arith, sym, ◌∙◌}
use Rattle.jcf_read.proofs.Loops.{tags_second, content_is, tags_next}
use Rattle.jcf_read.proofs.pool.tags_of.Goals as goal

pub loop-preserved-then-is_second : goal.loop-preserved-then-is_second
loop-preserved-then-is_second c =
    rw c.in_ok-push.ensures.ok (tags_second c.loop.tags.items c.args.count c.loop.counter c.loop.rest.now _ c.loop-test.true
    (rw c.if-is_second.true at c.loop.invariant))

pub loop-preserved : goal.loop-preserved
loop-preserved c =
    let some : 0 < length c.loop.rest.now = omega (arith, c.in-len1-up.len_at_least) in
    rw (c.in_ok-push-2.ensures.ok, c.tail-rest.ensures, c.holds.ensures, c.is_wide-is_second.ensures)
    (tags_next c.loop.tags.items c.args.count c.loop.counter c.loop.rest.now _ _ c.loop-test.true some
    (sym c.is_tag.ensures ∙ c.if-not-is_tag.false) (content_is c.loop.rest.now) (rw c.if-is_second.false at c.loop.invariant))
