use Rattle.std.proofs.Common.{◌≡◌, drop}
use Rattle.stm_client.specs.Client.{label_in}
use Rattle.stm_client.specs.View.{loops_of}
use Rattle.stm_client.proofs.labels.label_in.Given as goal

abbrev pub invariant-loop-around : goal.invariant-loop-around
invariant-loop-around l = label_in (loops_of l.loops) l.name ≡ label_in (loops_of (drop l.around-index l.loops)) l.name
