use Rattle.std.proofs.Common.{◌∙◌, refl, sym, arith}
use Rattle.ts_refine.proofs.Whole.{turns, stops, ends}
use Rattle.ts_refine.proofs.search.searched.Goals as goal

pub returns-in-Some : goal.returns-in-Some
returns-in-Some c =
    stops c.args.a.now c.args.b.now c.typestates_are_proper.ensures c.loop-next.search c.loop-next.search c.loop-next.search
    c.loop-next.next c.pair_at-pair.result c.in-Some.reason c.in_ok-calls-in-Some.calls.items
    c.loop-next.invariant refl c.pair_at-pair.ensures (sym c.in_ok-found.ensures ∙ c.in-Some.is) refl c.in_ok-calls-in-Some.ensures

pub loop-next-preserved : goal.loop-next-preserved
loop-next-preserved c =
    turns c.args.a.now c.args.b.now c.typestates_are_proper.ensures c.loop-next.search c.loop-next.search c.meet_all.new.self
    c.loop-next.next c.pair_at-pair.result c.others_at-others.result.now c.methods_at-methods.result.now
    c.loop-next.invariant refl c.pair_at-pair.ensures (sym c.in_ok-found.ensures ∙ c.in-None.is) c.others_at-others.ensures.methods
    c.methods_at-methods.ensures c.in_ok-meet_all-in-None.ensures

pub returns : goal.returns
returns c =
    ends c.args.a.now c.args.b.now c.loop-next.search c.loop-next.search c.loop-next.next c.in_ok-pairs.pairs.items
    c.loop-next.invariant (omega (arith, c.loop-next-test.false, c.len.ensures.value)) refl c.in_ok-pairs.ensures
