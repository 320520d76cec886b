use Rattle.std.proofs.Common.{◌≡◌, drop}
use Rattle.scr_judge.specs.inner.Gone.{not_last_in_part}
use Rattle.scr_judge.specs.inner.Listed.{first_among}
use Rattle.scr_judge.proofs.last.find_not_last_among.Given as goal

abbrev pub invariant-loop-part : goal.invariant-loop-part
invariant-loop-part l = first_among not_last_in_part l.parts ≡ first_among not_last_in_part (drop l.part-index l.parts)
