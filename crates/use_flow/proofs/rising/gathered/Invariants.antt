use Rattle.std.proofs.Common.{◌≡◌, drop}
use Rattle.use_flow.specs.inner.Reading.{risen, rising}
use Rattle.use_flow.proofs.rising.gathered.Given as goal

abbrev pub invariant-loop-number : goal.invariant-loop-number
invariant-loop-number l = risen (drop l.number-index l.numbers) l.set.keys ≡ rising l.numbers
