use Rattle.std.proofs.Common.{◌≡◌, ◌∷◌, [], get_or, set, subst, sym, arith}
use Rattle.scr_judge.specs.inner.Search.{Came}
use Rattle.scr_judge.proofs.Searching.{came_new}
use Rattle.scr_judge.proofs.round.come_to.Goals as goal

pub returns : goal.returns
returns c =
    let new : get_or c.args.seen.now c.args.node 0 ≡ 0 = omega arith in
    subst (Came (c.args.node ∷ []) c.args.seen.now c.args.waiting.now.items (set c.args.seen.now c.args.node 1))
    (sym c.in_ok-push.ensures.items)
    (came_new c.args.seen.now c.args.waiting.now.items c.args.node (omega arith) new)
