use Rattle.std.proofs.Common.{◌≡◌, drop}
use Rattle.scr_judge.specs.inner.Listed.{first_among, many}
use Rattle.scr_judge.proofs.typed.find_many.Given as goal

abbrev pub invariant-loop-message : goal.invariant-loop-message
invariant-loop-message l = first_among many l.carries ≡ first_among many (drop l.message-index l.carries)
