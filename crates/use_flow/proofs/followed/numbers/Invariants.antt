use Rattle.std.proofs.Common.{◌≡◌, ◌-◌, ◌++◌}
use Rattle.jv_core.specs.Numbering.{numbers_from}
use Rattle.use_flow.proofs.followed.numbers.Given as goal

abbrev pub invariant-loop-slot : goal.invariant-loop-slot
invariant-loop-slot l = l.numbers.items ++ numbers_from l.slot (l.count - l.slot) ≡ numbers_from 0 (l.count - 0)
