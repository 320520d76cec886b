use Rattle.std.proofs.Common.{get_or}
use Rattle.std.proofs.lemmas.List.{get_or_default}
use Rattle.mg_load.proofs.Steps.{rounds_more}
use Rattle.mg_load.proofs.classes.client.Goals as goal

pub loop-at-preserved : goal.loop-at-preserved
loop-at-preserved c =
    let x = get_or c.args.picks.now c.loop-at.at 0 in
    rounds_more c.args.picks.now c.loop-at.at x _ _ _ c.loop-at-test.true
    (get_or_default c.args.picks.now c.loop-at.at 0 x c.loop-at-test.true)
    c.loop-at.invariant c.in_ok-push_round.ensures
