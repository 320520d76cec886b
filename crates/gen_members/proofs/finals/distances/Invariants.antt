use Rattle.std.proofs.Common.{◌≡◌, map, take}
use Rattle.gen_rules.specs.Assembled.{distance}
use Rattle.gen_members.proofs.finals.distances.Given as goal

abbrev pub invariant-loop-target : goal.invariant-loop-target
invariant-loop-target l = l.distances.items ≡ map (distance l.fn.starts l.fn.here) (take l.target-index l.targets)
