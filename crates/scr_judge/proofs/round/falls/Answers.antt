use Rattle.std.proofs.Common.{ℕ, ◌≤◌, List, get_or, Contains, refl, sym, subst, arith}
use Rattle.scr_judge.proofs.Searching.{falls_more, falls_end}
use Rattle.scr_judge.proofs.round.falls.Goals as goal

pub loop-node-preserved : goal.loop-node-preserved
loop-node-preserved c =
    falls_more c.args.targets.now c.args.ranks.now c.loop-node.node c.index-targets-node.result c.loop-node-test.true
    c.index-targets-node.is c.loop-node.invariant
    (λ w h. subst (λ (r : ℕ). get_or c.args.ranks.now w 0 ≤ r) c.value_at.ensures
    (c.if-not-all_below.ensures refl w (subst (λ (es : List ℕ). Contains es w) (sym c.as_slice.ensures.value) h)))

pub returns : goal.returns
returns c = λ t. falls_end c.args.targets.now c.args.ranks.now c.loop-node.node (omega (arith, c.loop-node-test.false)) c.loop-node.invariant
