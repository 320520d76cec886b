use Rattle.std.proofs.Common.{◌≡◌, drop}
use Rattle.scr_judge.specs.inner.Counting.{counted_parts}
use Rattle.scr_judge.proofs.states.count_parts.Given as goal

abbrev pub invariant-loop-part : goal.invariant-loop-part
invariant-loop-part l = counted_parts l.fn.count l.parts ≡ counted_parts l.count (drop l.part-index l.parts)
