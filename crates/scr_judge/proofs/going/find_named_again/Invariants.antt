use Rattle.std.proofs.Common.{◌≡◌, drop}
use Rattle.std.specs.HashSet.{contains_text}
use Rattle.scr_judge.specs.inner.Gone.{named_again}
use Rattle.scr_judge.proofs.going.find_named_again.Given as goal

abbrev pub invariant-loop-part : goal.invariant-loop-part
invariant-loop-part l = named_again (contains_text l.initial.names) l.parts ≡ named_again (contains_text l.names)
    (drop l.part-index l.parts)
