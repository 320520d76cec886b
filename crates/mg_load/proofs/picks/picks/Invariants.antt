use Rattle.std.proofs.Common.{◌≡◌, ◌-◌, ◌*◌, ◌%◌, ◌++◌, map}
use Rattle.mg_load.specs.Workload.{words, picks}
use Rattle.mg_load.proofs.picks.picks.Given as goal

abbrev pub invariant-loop : goal.invariant-loop
invariant-loop l = l.picks.items ++ map (λ w. w % l.n) (words l.generator (4 * l.n - l.counter)) ≡ picks l.n l.seed
