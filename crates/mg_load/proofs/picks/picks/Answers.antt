use Rattle.std.proofs.Common.{◌*◌}
use Rattle.mg_load.proofs.Steps.{picked}
use Rattle.mg_load.proofs.picks.picks.Goals as goal

pub loop-preserved : goal.loop-preserved
loop-preserved c =
    picked c.args.n (4 * c.args.n) c.loop.counter c.loop.picks.items c.push.new.self.items _
    c.loop.generator c.next_word-word.result c.next_word-word.new.self
    c.loop-test.true c.next_word-word.ensures c.in_ok-push.ensures.items c.loop.invariant
