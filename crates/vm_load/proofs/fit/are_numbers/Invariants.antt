use Rattle.std.proofs.Common.{◌≡◌, nat_lt, drop}
use Rattle.std.specs.List.{list_all}
use Rattle.vm_load.proofs.fit.are_numbers.Given as goal

abbrev pub invariant-loop-target : goal.invariant-loop-target
invariant-loop-target l =
    list_all (λ target. nat_lt target l.count) (drop l.target-index l.targets) ≡ list_all (λ target. nat_lt target l.count) l.targets
