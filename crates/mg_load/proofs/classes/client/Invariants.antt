use Rattle.std.proofs.Common.{◌≡◌, ◌++◌, take, string_bytes}
use Rattle.mg_load.specs.Workload.{rounds}
use Rattle.mg_load.proofs.classes.client.Given as goal

abbrev pub invariant-loop-at : goal.invariant-loop-at
invariant-loop-at l = string_bytes l.out ≡ string_bytes l.initial.out ++ rounds 1 (take l.at l.picks)
