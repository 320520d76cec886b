use Rattle.std.proofs.Common.{◌≡◌, drop}
use Rattle.scr_judge.specs.inner.Listed.{first_among, many_by}
use Rattle.scr_judge.proofs.typed.find_many_among.Given as goal

abbrev pub invariant-loop-part : goal.invariant-loop-part
invariant-loop-part l = first_among many_by l.parts ≡ first_among many_by (drop l.part-index l.parts)
