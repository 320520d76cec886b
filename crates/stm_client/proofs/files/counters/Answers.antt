use Rattle.std.proofs.Common.{◌≡◌, ap, ◌∙◌, arith}
use Rattle.stm_client.specs.Client.{counters}
use Rattle.stm_client.proofs.Turns.{one-counter-more}
use Rattle.stm_client.proofs.files.counters.Goals as goal

pub returns : goal.returns
returns c = let end : c.loop-number.number ≡ c.args.count = omega arith in c.loop-number.invariant ∙ ap counters end

pub loop-number-preserved : goal.loop-number-preserved
loop-number-preserved c =
    one-counter-more c.loop-number.names.items _ c.in_ok-name.name c.loop-number.number c.loop-number.invariant c.in_ok-name.ensures
    c.in_ok-push.ensures.ok
