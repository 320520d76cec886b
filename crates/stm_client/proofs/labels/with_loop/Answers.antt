use Rattle.stm_client.proofs.Turns.{loops-more}
use Rattle.stm_client.proofs.labels.with_loop.Goals as goal

pub loop-around-preserved : goal.loop-around-preserved
loop-around-preserved c =
    loops-more c.args.loops.now c.loop-around.inside.items _ c.loop-around.around-index c.around-item.result c.loop-around-test.true
    c.around-item.is c.loop-around.invariant c.in_ok-add_loop.ensures
