use Rattle.std.proofs.Common.{◌≡◌, ◌++◌}
use Rattle.use_flow.specs.inner.Reading.{rising}
use Rattle.use_flow.proofs.rising.rising.Given as goal

abbrev pub invariant-loop-number : goal.invariant-loop-number
invariant-loop-number l = l.rising.items ++ l.number-iterator ≡ rising l.numbers
