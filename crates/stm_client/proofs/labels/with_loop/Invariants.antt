use Rattle.std.proofs.Common.{◌≡◌, take}
use Rattle.stm_client.specs.View.{loops_of}
use Rattle.stm_client.proofs.labels.with_loop.Given as goal

abbrev pub invariant-loop-around : goal.invariant-loop-around
invariant-loop-around l = loops_of l.inside.items ≡ loops_of (take l.around-index l.loops)
