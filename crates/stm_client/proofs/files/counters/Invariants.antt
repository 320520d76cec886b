use Rattle.std.proofs.Common.{◌≡◌}
use Rattle.stm_client.specs.Client.{counters}
use Rattle.stm_client.proofs.files.counters.Given as goal

abbrev pub invariant-loop-number : goal.invariant-loop-number
invariant-loop-number l = l.names.items ≡ counters l.number
