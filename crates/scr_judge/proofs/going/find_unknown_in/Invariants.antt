use Rattle.std.proofs.Common.{◌≡◌, drop}
use Rattle.std.specs.HashSet.{contains_text}
use Rattle.scr_judge.specs.inner.Gone.{unknown_in}
use Rattle.scr_judge.specs.inner.Listed.{first_among}
use Rattle.scr_judge.proofs.going.find_unknown_in.Given as goal

abbrev pub invariant-loop-part : goal.invariant-loop-part
invariant-loop-part l = first_among (unknown_in (contains_text l.names)) l.parts ≡ first_among (unknown_in (contains_text l.names))
    (drop l.part-index l.parts)
